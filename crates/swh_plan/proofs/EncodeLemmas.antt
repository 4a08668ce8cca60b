-- How long what is written for an event is.
use Rattle.std.proofs.Common.{◌≡◌, ℕ, List, [], ◌∷◌, ◌++◌, length, ap, ◌∙◌}
use Rattle.swh_model.specs.declared.event.Event.{Event}
use Rattle.swh_format.specs.EventRecord.{coded_record, packed_objects}
use Rattle.swh_format.proofs.Lengths.{stored-length, record-length}
use Rattle.swh_model.specs.Judged.{AreLengths}
use Rattle.swh_replay.specs.Replay.{IsReplayOf}
use Rattle.swh_replay.specs.declared.replayed.Replayed.{Replayed}

pub lengths_are : (r : Replayed) (h : List Event) (e : Event) (run bytes : List ℕ) (run_length bytes_length : ℕ) → IsReplayOf r h → run ≡ packed_objects e.what → bytes ≡ coded_record r.store_end e ++ 0 ∷ []
    → run_length ≡ length run → bytes_length ≡ length bytes → AreLengths h e.what r.store_end run_length r.ledger_end bytes_length
lengths_are r h e run bytes run_length bytes_length is run_is bytes_is rl bl =
    record {
      store = is.store;
      run_is = rl ∙ ap length run_is ∙ stored-length e.what;
      ledger = is.ledger;
      record_is = bl ∙ record-length r.store_end e bytes bytes_is;
    }
