-- What a keeper's fields keep.
use Rattle.std.specs.Prelude.{◌≡◌, ℕ, ◌+◌, ◌≤◌, ◌^◌, Option, Some, None, Ok, List, [], ◌∷◌, ◌++◌, length}
use Rattle.swh_outside.specs.Disk.{File}
use Rattle.swh_outside.specs.Files.{Files, FilesBreaks, files_of, files_done}
use Rattle.swh_model.specs.declared.event.Outcome.{Outcome}
use Rattle.swh_model.specs.Judge.{IsVerdict}
use Rattle.swh_segment.specs.OnDisk.{OnDisk}
use Rattle.swh_segment.specs.Settled.{AreSettled}
use Rattle.swh_segment.specs.Calls.{calls_for}
use Rattle.swh_base.specs.declared.kind.Kind.{Kind}
use Rattle.swh_model.specs.declared.event.Event.{Event}
use Rattle.swh_model.specs.declared.event.Wish.{Wish}
use Rattle.swh_format.specs.EventRecord.{coded_record, packed_objects, IsCodable, AreCodable}
use Rattle.swh_model.specs.Limits.{store_length}
use Rattle.swh_format.specs.Stands.{all_written}
use Rattle.swh_model.specs.Step.{IsHistory}
use Rattle.swh_replay.specs.declared.replayed.Replayed.{Replayed}
use Rattle.swh_replay.specs.Replay.{IsReplayOf, IsInFiles}
use Rattle.swh_keeper.specs.Kept.{MayHoldOneMore}

-- The files are settled for the history, and its events fit their fields.
pub record AreSettledFor (ledger store : File) (h : List Event) (store_end ledger_end : ℕ) : Type 0 where
  pub settled : AreSettled (files_of ledger store) (all_written 0 h) store_end ledger_end
  pub codable : AreCodable 0 h

-- what holds of the fields of a keeper
pub record IsKeeping (id_of : Kind → List ℕ → List ℕ) (tells : Type 0) (ledger store : File) (r : Replayed) (h : List Event) (wounded : Option ℕ) : Type 0 where
  pub history : IsHistory id_of h
  pub in_files : IsInFiles r
  pub replayed_is : wounded ≡ None → IsReplayOf r h
  pub settled : wounded ≡ None → tells → AreSettledFor ledger store h r.store_end r.ledger_end
  pub doubt : (n : ℕ) → wounded ≡ Some n → tells → MayHoldOneMore id_of ledger store h

-- The owners of the two files have the ends that are in memory.
pub record HaveEnds (store_end ledger_end : ℕ) (r : Replayed) : Type 0 where
  pub store : store_end ≡ r.store_end
  pub ledger : ledger_end ≡ r.ledger_end

-- The same of a keeper that owns the files, with their ends unless a disk failed.
pub record IsKeeper {D : Type 0} (id_of : Kind → List ℕ → List ℕ) (tells : Type 0) (file : D → File) (ledger store : OnDisk D) (r : Replayed) (h : List Event) (wounded : Option ℕ) : Type 0 where
  pub keeping : IsKeeping id_of tells (file ledger.disk) (file store.disk) r h wounded
  pub ends : wounded ≡ None → HaveEnds store.end ledger.end r

-- The event of a plan, with its bytes and room for them.
pub record IsToAdd (r : Replayed) (h : List Event) (e : Event) (run bytes : List ℕ) : Type 0 where
  pub run_is : run ≡ packed_objects e.what
  pub bytes_are : bytes ≡ coded_record r.store_end e ++ 0 ∷ []
  pub codable : IsCodable r.store_end e
  pub store : r.store_end ≡ store_length h

-- Both files have room for these.
pub record FilesHaveRoom (r : Replayed) (run bytes : List ℕ) : Type 0 where
  pub store_fits : r.store_end + length run ≤ 2 ^ 62
  pub ledger_fits : r.ledger_end + 1 + length bytes ≤ 2 ^ 62

-- The event after the history is the newest, and its calls were made.
pub record IsCarriedOut (h h' : List Event) (old new : Files) : Type 0 where
  pub event : Event
  pub added_behind : h' ≡ h ++ event ∷ []
  pub calls : new ≡ files_done (calls_for h event) old

-- The plan's event was judged, and one of its calls failed.
pub record IsBrokenOff (h : List Event) (by : ℕ) (wish : Wish) (old new : Files) : Type 0 where
  pub event : Event
  pub outcome : Outcome
  pub verdict : IsVerdict h by wish (Ok (event, outcome))
  pub breaks : FilesBreaks (calls_for h event) old new
