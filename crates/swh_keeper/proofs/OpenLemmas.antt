-- A history for which two files stand, and the keeper that opens them.
use Rattle.std.proofs.Common.{◌≡◌, ℕ, Some, None, List, length, sym, ap, ◌∙◌, arith}
use Rattle.swh_outside.specs.Disk.{File, IsAtRest}
use Rattle.swh_base.specs.declared.kind.Kind.{Kind}
use Rattle.swh_model.specs.declared.event.Event.{Event}
use Rattle.swh_format.specs.Stands.{StandsFor}
use Rattle.swh_model.specs.Step.{IsHistory}
use Rattle.swh_replay.specs.declared.replayed.Replayed.{Replayed}
use Rattle.swh_replay.specs.Replay.{IsReplayOf, IsInFiles}
use Rattle.swh_keeper.specs.Keeping.{AreSettledFor, IsKeeping}
use Rattle.swh_format.proofs.HistoryFiles.{runs-written}
use Rattle.swh_format.proofs.Lengths.{runs-length, ledger-length}

-- files that stand for a history are settled for it once nothing was written since a barrier
pub settled_from_standing : (ledger store : File) (r : Replayed) (h : List Event) → IsAtRest ledger → IsAtRest store → StandsFor ledger.seen store.seen h → IsReplayOf r h → AreSettledFor ledger store h r.store_end r.ledger_end
settled_from_standing ledger store r h lr sr s is = record {
  settled = record {
    ledger = record {
      rests = lr;
      stands = s.files.ledger_stands;
      end_is = let l = is.ledger in let n = ledger-length h in omega (arith, l, n);
    };
    store = sr;
    rest = s.files.rest;
    begins = s.files.store_begins;
    store_end_is = let l = is.store in ap length (runs-written 0 h) ∙ runs-length h ∙ sym l;
  };
  codable = s.codable;
}

pub keeping_opened : (id_of : Kind → List ℕ → List ℕ) (tells : Type 0) (ledger store : File) (r : Replayed) (h : List Event) → IsHistory id_of h → IsInFiles r → IsReplayOf r h
    → (tells → IsAtRest ledger) → (tells → IsAtRest store) → (tells → StandsFor ledger.seen store.seen h) → IsKeeping id_of tells ledger store r h None
keeping_opened id_of tells ledger store r h history fits is lr sr s =
    record {
      history = history;
      in_files = fits;
      replayed_is = λ _. is;
      settled = λ _ told. settled_from_standing ledger store r h (lr told) (sr told) (s told) is;
      doubt = λ n is_some. absurd (let f : None ≡ Some n = is_some in cc);
    }
