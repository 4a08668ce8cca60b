-- Two files that stand for a history of events, or for it with one event more or without it.
use Rattle.std.specs.Prelude.{◌⊎◌, List, [], ◌∷◌, ◌++◌}
use Rattle.swh_outside.specs.Disk.{File, IsAtRest}
use Rattle.swh_outside.specs.Files.{Images}
use Rattle.swh_model.specs.declared.event.Event.{Event}
use Rattle.swh_format.specs.Stands.{StandsFor}

-- Nothing was written on either since a barrier, and the two files stand for the history.
pub record AreStanding (ledger store : File) (h : List Event) : Type 0 where
  pub ledger_rests : IsAtRest ledger
  pub store_rests : IsAtRest store
  pub stand : StandsFor ledger.seen store.seen h

-- What a crash leaves stands for the history, with the event or without.
abbrev pub WithOrWithout : List Event → Event → Images → Type 0
WithOrWithout h e images = StandsFor (images 0) (images 1) h ⊎ StandsFor (images 0) (images 1) (h ++ e ∷ [])
