-- Records as far as they are read, and the next one.
use Rattle.std.proofs.Common.{◌≡◌, ℕ, ◌+◌, ◌-◌, List, [], ◌∷◌, ◌++◌, length, drop, refl, sym, ap, ◌∙◌, subst, inl, inr, arith, length-append, append_assoc}
use Rattle.std.proofs.lemmas.List.{append-nil}
use Rattle.std.proofs.Math.Seq.{drop-append_seam}
use Rattle.std.specs.List.{AllByRecursion}
use Rattle.swh_base.specs.declared.kind.Kind.{Kind}
use Rattle.swh_model.specs.declared.event.Event.{Event}
use Rattle.swh_object.specs.Object.{IsObject}
use Rattle.swh_format.specs.declared.frame.RecordParts.{RecordParts}
use Rattle.swh_format.specs.Record.{magic}
use Rattle.swh_format.specs.EventRecord.{packed_objects, coded_record, IsCodable, AreCodable}
use Rattle.swh_format.specs.Stands.{coded_records, coded_runs}
use Rattle.swh_format.proofs.HistoryFiles.{codable-push}
use Rattle.swh_recovery.specs.declared.harm.Harm.TheVariants.{Short}
use Rattle.swh_recovery.specs.declared.harm.Found.{Found}
use Rattle.swh_recovery.specs.declared.reading.Reached.{Reached}
use Rattle.swh_recovery.specs.Fields.{found_at}
use Rattle.swh_recovery.specs.LedgerHarm.{RecordBreaks}
use Rattle.swh_model.specs.Entries.{entries_of}
use Rattle.swh_recovery.specs.Harms.{Begin, NextBreaks}
use Rattle.swh_recovery.specs.Records.{records_of, EventBreaks, IsEventRead, HasRuns, HoldsEvent, IsReadSoFar, BreaksNext}

records-push : (at : ℕ) (g : List Event) (e : Event) (rest : List ℕ) → coded_records at (g ++ e ∷ []) ++ rest ≡ coded_records at g ++ 1 ∷ (coded_record (at + length (coded_runs g)) e ++ rest)
records-push at [] e rest =
    ap (λ (l : List ℕ). 1 ∷ (l ++ rest)) (append-nil (coded_record at e)) ∙ ap (λ (n : ℕ). 1 ∷ (coded_record n e ++ rest)) (let z : at ≡ at + 0 = omega arith in z)
records-push at (f ∷ g) e rest =
    let next = at + length (packed_objects f.what) in
    let place : next + length (coded_runs g) ≡ at + length (packed_objects f.what ++ coded_runs g) = omega (arith, length-append (packed_objects f.what) (coded_runs g)) in
    ap (λ (l : List ℕ). 1 ∷ l)
    (append_assoc (coded_record at f) (coded_records next (g ++ e ∷ [])) rest ∙ ap (λ (l : List ℕ). coded_record at f ++ l) (records-push next g e rest)
    ∙ sym (append_assoc (coded_record at f) (coded_records next g) (1 ∷ (coded_record (next + length (coded_runs g)) e ++ rest))))
    ∙ ap (λ (n : ℕ). 1 ∷ ((coded_record at f ++ coded_records next g) ++ 1 ∷ (coded_record n e ++ rest))) place

runs-push : (g : List Event) (e : Event) → coded_runs (g ++ e ∷ []) ≡ coded_runs g ++ packed_objects e.what
runs-push [] e = append-nil (packed_objects e.what)
runs-push (f ∷ g) e = ap (λ (l : List ℕ). packed_objects f.what ++ l) (runs-push g e) ∙ sym (append_assoc (packed_objects f.what) (coded_runs g) (packed_objects e.what))

all_push : {X : Type 0} (P : X → Type 0) (xs : List X) (y : X) → AllByRecursion P xs → P y → AllByRecursion P (xs ++ y ∷ [])
all_push P [] y h p = (p, tt)
all_push P (x ∷ xs) y h p = (h.0, all_push P xs y h.1 p)

-- What is told of a history, up to these places.
record AreParts (id_of : Kind → List ℕ → List ℕ) (ledger : List ℕ) (gate end : ℕ) (h : List Event) : Type 0 where
  gate_is : gate ≡ 8 + length (coded_records 0 h)
  ledger_begins : ledger ≡ magic ++ (coded_records 0 h ++ drop gate ledger)
  end_is : end ≡ length (coded_runs h)
  codable : AreCodable 0 h
  good : AllByRecursion (λ e. AllByRecursion (IsObject id_of) (entries_of e.what)) h

module _ (id_of : Kind → List ℕ → List ℕ) (ledger store : List ℕ) (old : Reached) (so_far : IsReadSoFar id_of ledger old) (runs : HasRuns store old) where
  fronts : Begin id_of ledger store old.events.items
  fronts = record {
    records = drop old.gate ledger;
    ledger_begins = so_far.ledger_begins;
    store_rest = drop old.end store;
    store_begins = runs.store_begins;
    codable = so_far.codable;
    good = so_far.good;
  }

  next_breaks : (file : ℕ) (found : Found) → NextBreaks id_of (length old.events.items + 1) old.gate old.end (drop old.gate ledger) store file found → BreaksNext id_of ledger store old file found
  unfolding fronts
  next_breaks file found next = record {
    fronts = fronts;
    next =
        subst (λ (n : ℕ). NextBreaks id_of (length old.events.items + 1) n (length (coded_runs old.events.items)) (drop old.gate ledger) store file found) so_far.gate_is
        (subst (λ (n : ℕ). NextBreaks id_of (length old.events.items + 1) old.gate n (drop old.gate ledger) store file found) so_far.end_is next);
  }

  pub no_gate : (found : Found) → drop old.gate ledger ≡ [] → found ≡ found_at old.gate (Short 0 1) → BreaksNext id_of ledger store old 0 found
  no_gate found none is = next_breaks 0 found (inl (record { none = none; file_is = refl; found_is = is }))

  pub record_breaks : (behind : List ℕ) (found : Found) → drop old.gate ledger ≡ 1 ∷ behind → RecordBreaks behind (old.gate + 1) found → BreaksNext id_of ledger store old 0 found
  record_breaks behind found opened breaks = next_breaks 0 found (inr (inl (record { behind = behind; opened = opened; file_is = refl; breaks = breaks })))

  pub event_breaks : (p : RecordParts) (file : ℕ) (found : Found) (number : ℕ) → number ≡ length old.events.items + 1 → drop old.gate ledger ≡ records_of p → EventBreaks id_of number old.gate old.end p store file found → BreaksNext id_of ledger store old file found
  event_breaks p file found number numbered is breaks =
      let here : NextBreaks id_of number old.gate old.end (records_of p) store file found = elim breaks [ inl x ↦ inr (inr (inl x)) | inr x ↦ inr (inr (inr x)) ] in
      next_breaks file found
      (subst (λ (n : ℕ). NextBreaks id_of n old.gate old.end (drop old.gate ledger) store file found) numbered
      (subst (λ (l : List ℕ). NextBreaks id_of number old.gate old.end l store file found) (sym is) here))

module _ (id_of : Kind → List ℕ → List ℕ) (ledger : List ℕ) (old : Reached) (so_far : IsReadSoFar id_of ledger old) where
  module _ (p : RecordParts) (e : Event) (end : ℕ) (is : drop old.gate ledger ≡ records_of p) (read : IsEventRead id_of old.end p e end) where
    parts : AreParts id_of ledger (length ledger - length p.rest.now) end (old.events.items ++ e ∷ [])
    parts =
        let g = old.events.items in
        let rest = p.rest.now in
        let place : old.end ≡ 0 + length (coded_runs g) = let s = so_far.end_is in omega (arith, s) in
        let whole : ledger ≡ magic ++ (coded_records 0 (g ++ e ∷ []) ++ rest) =
        so_far.ledger_begins ∙ ap (λ (l : List ℕ). magic ++ (coded_records 0 g ++ l)) (is ∙ ap (λ (l : List ℕ). 1 ∷ (l ++ rest)) read.ledger)
        ∙ ap (λ (n : ℕ). magic ++ (coded_records 0 g ++ 1 ∷ (coded_record n e ++ rest))) place ∙ ap (λ (l : List ℕ). magic ++ l) (sym (records-push 0 g e rest)) in
        let front = magic ++ coded_records 0 (g ++ e ∷ []) in
        let cut_here : ledger ≡ front ++ rest = whole ∙ sym (append_assoc magic (coded_records 0 (g ++ e ∷ [])) rest) in
        let size : length front ≡ length ledger - length rest = omega (arith, ap length cut_here, length-append front rest) in
        let left : rest ≡ drop (length ledger - length rest) ledger = sym (drop-append_seam front rest) ∙ ap (drop (length front)) (sym cut_here) ∙ ap (λ (n : ℕ). drop n ledger) size in
        let runs : length (coded_runs (g ++ e ∷ [])) ≡ length (coded_runs g ++ packed_objects e.what) = ap length (runs-push g e) in
        record {
          gate_is = omega (arith, size, length-append magic (coded_records 0 (g ++ e ∷ [])));
          ledger_begins = whole ∙ ap (λ (l : List ℕ). magic ++ (coded_records 0 (g ++ e ∷ []) ++ l)) left;
          end_is = let s = so_far.end_is in let n = read.end_is in omega (arith, s, n, runs, length-append (coded_runs g) (packed_objects e.what));
          codable = codable-push 0 g e so_far.codable (subst (λ (n : ℕ). IsCodable n e) place read.codable);
          good = all_push (λ e. AllByRecursion (IsObject id_of) (entries_of e.what)) g e so_far.good read.good;
        }

    pub so_far_next : (new : Reached) → new.gate ≡ length ledger - length p.rest.now → new.end ≡ end → new.events.items ≡ old.events.items ++ e ∷ [] → IsReadSoFar id_of ledger new
    so_far_next new gate_is end_is items =
        let a : AreParts id_of ledger new.gate new.end new.events.items =
        subst (λ (h : List Event). AreParts id_of ledger new.gate new.end h) (sym items)
        (subst (λ (n : ℕ). AreParts id_of ledger n new.end (old.events.items ++ e ∷ [])) (sym gate_is)
        (subst (λ (n : ℕ). AreParts id_of ledger (length ledger - length p.rest.now) n (old.events.items ++ e ∷ [])) (sym end_is) parts)) in
        record {
          gate_is = a.gate_is;
          ledger_begins = a.ledger_begins;
          end_is = a.end_is;
          codable = a.codable;
          good = a.good;
        }

pub runs_next : (store : List ℕ) (old new : Reached) (e : Event) → HasRuns store old → HoldsEvent old.end store e new.end → new.events.items ≡ old.events.items ++ e ∷ [] → HasRuns store new
runs_next store old new e runs holds items =
    let g = old.events.items in
    record {
      store_begins = runs.store_begins ∙ ap (λ (l : List ℕ). coded_runs g ++ l) holds.run ∙ sym (append_assoc (coded_runs g) (packed_objects e.what) (drop new.end store)) ∙ ap (λ (l : List ℕ). l ++ drop new.end store) (sym (runs-push g e))
          ∙ ap (λ (h : List Event). coded_runs h ++ drop new.end store) (sym items);
    }
