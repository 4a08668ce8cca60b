-- What is read of both files in the end.
use Rattle.std.proofs.Common.{◌≡◌, ℕ, ◌<◌, ◌≤◌, List, [], ◌++◌, length, drop, sym, ap, subst, inr, arith, length-append}
use Rattle.swh_base.specs.declared.kind.Kind.{Kind}
use Rattle.swh_base.specs.Limits.{file_limit}
use Rattle.swh_format.specs.Record.{magic}
use Rattle.swh_format.specs.Stands.{coded_records, StandsFor}
use Rattle.swh_format.proofs.StandsFrom.{with_magic}
use Rattle.swh_format.proofs.Lengths.{runs-length, ledger-length}
use Rattle.swh_recovery.specs.declared.fault.NextFault.{NextFault}
use Rattle.swh_recovery.specs.declared.fault.NextFault.TheVariants as next
use Rattle.swh_recovery.specs.declared.reading.Reached.{Reached}
use Rattle.swh_recovery.specs.Records.{IfNextHarmed, HasRuns, IsReadSoFar, IsInside, BreaksNext, IsAtEnd, AreWhole, IsHarm}
use Rattle.swh_recovery.specs.Answers.{all_fault, IfDamaged}

pub all_read : (id_of : Kind → List ℕ → List ℕ) (ledger store : List ℕ) (r : Reached) → IsReadSoFar id_of ledger r → HasRuns store r → IsAtEnd ledger r → StandsFor ledger store r.events.items
all_read id_of ledger store r so_far runs end = with_magic ledger store r.events.items (record {
  rest = coded_records 0 r.events.items ++ drop r.gate ledger;
  begins = so_far.ledger_begins;
  stands = record {
    gate = end.gate;
    closed = end.closed;
    behind = end.behind;
    records = ap (λ (l : List ℕ). coded_records 0 r.events.items ++ l) end.is;
    beyond = drop r.end store;
    runs = runs.store_begins;
    codable = so_far.codable;
  };
})

pub all_whole : (id_of : Kind → List ℕ → List ℕ) (ledger : List ℕ) (size : ℕ) (r : Reached) → IsReadSoFar id_of ledger r → IsInside (length ledger) size r → size ≤ file_limit → length ledger < file_limit → AreWhole id_of r.events.items
all_whole id_of ledger size r so_far inside small short =
    let h = r.events.items in
    record {
      codable = so_far.codable;
      good = so_far.good;
      store_fits = let e = so_far.end_is in let i = inside.end_inside in let n = runs-length h in omega (arith, e, i, n, small);
      ledger_fits = let e = so_far.gate_is in let i = inside.gate_inside in let n = ledger-length h in omega (arith, e, i, n, short, length-append magic (coded_records 0 h));
    }

pub harmed_whole : (id_of : Kind → List ℕ → List ℕ) (fault : NextFault) (old new : Reached) → IfNextHarmed fault (λ _ _. new ≡ old) → AreWhole id_of old.events.items → IfDamaged (all_fault fault new.events) (λ _ _ _ before. AreWhole id_of before)
harmed_whole id_of next.DiskFailed old new same whole = tt
harmed_whole id_of next.Memory old new same whole = tt
harmed_whole id_of (next.Harmed file found) old new same whole = subst (λ (r : Reached). AreWhole id_of r.events.items) (sym same) whole

pub next_harmed : (id_of : Kind → List ℕ → List ℕ) (ledger store : List ℕ) (fault : NextFault) (r : Reached) → IfNextHarmed fault (BreaksNext id_of ledger store r) → IfDamaged (all_fault fault r.events) (IsHarm id_of ledger store)
next_harmed id_of ledger store next.DiskFailed r h = tt
next_harmed id_of ledger store next.Memory r h = tt
next_harmed id_of ledger store (next.Harmed file found) r h = inr h
