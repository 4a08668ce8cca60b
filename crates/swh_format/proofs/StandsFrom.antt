-- Files that stand for events from a gate of the ledger and from a place of the store on.
use Rattle.std.proofs.Common.{◌≡◌, ◌≢◌, ℕ, List, ◌∷◌, ◌++◌, refl, sym, ap, ◌∙◌, append_assoc}
use Rattle.swh_model.specs.declared.event.Event.{Event}
use Rattle.swh_format.specs.Record.{magic}
use Rattle.swh_format.specs.EventRecord.{AreCodable}
use Rattle.swh_format.specs.Stands.{coded_records, coded_runs, StandsFor}
use Rattle.swh_format.proofs.HistoryFiles.{runs-written}

pub record StandsFrom (at : ℕ) (ledger store : List ℕ) (h : List Event) : Type 0 where
  pub gate : ℕ
  pub closed : gate ≢ 1
  pub behind : List ℕ
  pub records : ledger ≡ coded_records at h ++ gate ∷ behind
  pub beyond : List ℕ
  pub runs : store ≡ coded_runs h ++ beyond
  pub codable : AreCodable at h

-- The magic is in front of them.
pub record StandsBehind (ledger store : List ℕ) (h : List Event) : Type 0 where
  pub rest : List ℕ
  pub begins : ledger ≡ magic ++ rest
  pub stands : StandsFrom 0 rest store h

-- files that stand for a history do so from the first gate on
pub behind_magic : (ledger store : List ℕ) (h : List Event) → StandsFor ledger store h → StandsBehind ledger store h
behind_magic ledger store h s =
    let ledger_is = s.files.ledger_stands in
    record {
      rest = coded_records 0 h ++ ledger_is.gate ∷ ledger_is.rest;
      begins = ledger_is.split ∙ append_assoc magic (coded_records 0 h) (ledger_is.gate ∷ ledger_is.rest);
      stands = record {
        gate = ledger_is.gate;
        closed = ledger_is.closed;
        behind = ledger_is.rest;
        records = refl;
        beyond = s.files.rest;
        runs = s.files.store_begins ∙ ap (λ (l : List ℕ). l ++ s.files.rest) (runs-written 0 h);
        codable = s.codable;
      };
    }

-- and files that do so stand for it
pub with_magic : (ledger store : List ℕ) (h : List Event) → StandsBehind ledger store h → StandsFor ledger store h
with_magic ledger store h s =
    record {
      files = record {
        ledger_stands = record {
          gate = s.stands.gate;
          closed = s.stands.closed;
          rest = s.stands.behind;
          split = s.begins ∙ ap (λ (l : List ℕ). magic ++ l) s.stands.records ∙ sym (append_assoc magic (coded_records 0 h) (s.stands.gate ∷ s.stands.behind));
        };
        rest = s.stands.beyond;
        store_begins = s.stands.runs ∙ ap (λ (l : List ℕ). l ++ s.stands.beyond) (sym (runs-written 0 h));
      };
      codable = s.stands.codable;
    }
