-- What adding an event leaves in memory.
use Rattle.std.specs.Prelude.{◌≡◌, List, [], ◌∷◌, ◌++◌}
use Rattle.swh_model.specs.declared.event.Event.{Event}
use Rattle.swh_replay.specs.declared.replayed.Replayed.{Replayed}
use Rattle.swh_replay.specs.Replay.{IsReplayOf, IsInFiles}
use Rattle.swh_keeper.specs.declared.adding.AddFault.{AddFault}
use Rattle.swh_keeper.specs.declared.adding.AddFault.TheVariants.{Disk, Memory}

-- The history ends with the event, and what is in memory is its replay, with both ends within the files' limits.
pub record IsAdded (h : List Event) (e : Event) (h' : List Event) (r : Replayed) : Type 0 where
  pub history : h' ≡ h ++ e ∷ []
  pub replay : IsReplayOf r (h ++ e ∷ [])
  pub in_files : IsInFiles r

-- The history and the ends in both files are as they were.
pub record IsNotAdded (h h' : List Event) (old new : Replayed) : Type 0 where
  pub history : h' ≡ h
  pub store_end : new.store_end ≡ old.store_end
  pub ledger_end : new.ledger_end ≡ old.ledger_end

-- P, unless a disk failed
abbrev pub UnlessDiskFault : AddFault → Type 0 → Type 0
UnlessDiskFault Disk P = Unit {0}
UnlessDiskFault Memory P = P
