-- The marks of a visit.
use Rattle.std.specs.Prelude.{◌≡◌, ℕ, Option, List}
use Rattle.swh_base.specs.declared.visit.Status.{Status}
use Rattle.swh_model.specs.declared.event.EventKind.{EventKind}
use Rattle.swh_model.specs.declared.event.Wish.{Wish}
use Rattle.swh_model.specs.declared.event.Wish.TheVariants as wished
use Rattle.swh_ingest.specs.Owning.{Attempt, mark_of}

-- This visit was marked.
pub record IsMarkOf (a : Attempt) (number : ℕ) (what : EventKind) : Type 0 where
  pub status : Status
  pub snapshot : Option (List ℕ)
  pub is : what ≡ mark_of a number status snapshot

-- It was asked to mark this visit.
pub record IsMarkAsked (a : Attempt) (number : ℕ) (wish : Wish) : Type 0 where
  pub status : Status
  pub snapshot : Option (List ℕ)
  pub is : wish ≡ wished.Mark a.origin number status snapshot
