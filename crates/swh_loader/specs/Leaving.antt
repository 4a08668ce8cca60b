-- What a load may add, and what it leaves of its job.
use Rattle.std.specs.Prelude.{◌≡◌, ◌⊎◌, ◌≤◌, ℕ, Some, Result, List, IfOk, IfErr}
use Rattle.swh_base.specs.declared.kind.Kind.{Kind}
use Rattle.swh_base.specs.declared.entry.Entry.{Entry}
use Rattle.swh_outside.specs.Views.{Disks}
use Rattle.swh_keeper.specs.Kept.{Kept}
use Rattle.swh_ingest.specs.declared.end.LoadFault.{LoadFault}
use Rattle.swh_ingest.specs.declared.input.Opening.{Opening}
use Rattle.swh_ingest.specs.declared.input.Opening.TheVariants.{Found, NotFound, Failed, Memory}
use Rattle.swh_ingest.specs.Loading.{StopsFailing}
use Rattle.swh_ingest.specs.Owning.{Attempt}
use Rattle.swh_keeperload.specs.Alone.{alone_protocol}
use Rattle.swh_keeperload.specs.Loading.{AddsVisit, EndsVisit, IsHeldBack, MakesVisitCalls, NoCountFell, Stops}
use Rattle.swh_inputs.specs.Opening.{kind_of, opening_of}
use Rattle.swh_inputs.specs.Parts.{Parts, IsQuiet, IsSameInput}
use Rattle.swh_inputs.specs.declared.input.Input.{Input}
use Rattle.swh_loader.specs.declared.end.Loaded.{Loaded}
use Rattle.swh_loader.specs.declared.job.Job.{Job}
use Rattle.swh_loader.specs.Ending.{AreGivenBy, IsJobEnd, IsQuietEnd, held_bodies, statuses_of}
use Rattle.swh_loader.specs.Report.{detail_limit, end_room}

module _ {S F : Type 0} (id : Kind → List ℕ → List ℕ) (p : Parts S F) (i : Input S F) where
  -- The batches of a load whose input was found so hold only what it may give before its reading stops; without an input there
  -- are none.
  abbrev pub AreAllowedAt : Opening → List Entry → Type 0
  AreAllowedAt Found entries = AreGivenBy id p i entries
  AreAllowedAt NotFound entries = ⊥
  AreAllowedAt Failed entries = ⊥
  AreAllowedAt Memory entries = ⊥

  -- The batches of a load hold only what its input may give before its reading stops; without an input there are none.
  abbrev pub AreAllowed : List Entry → Type 0
  AreAllowed entries = AreAllowedAt (opening_of i) entries

-- The job is as it was but for what was read of its input.
pub record IsSameJob {S F : Type 0} (p : Parts S F) (job now : Job S F) : Type 0 where
  pub origin : now.origin ≡ job.origin
  pub input : IsSameInput p job.input now.input

-- A load that stopped heard no failure of its input: no part of it failed, unless the load stopped as its visit was to be marked as
-- failed.
abbrev pub HeardNoFailure : {S F D : Type 0} → (Kind → List ℕ → List ℕ) → Parts S F → Disks D → Attempt → Input S F → Input S F → Kept D → LoadFault → Type 0
HeardNoFailure id p disks a i now new fault = IsQuiet p i now ⊎ StopsFailing id (alone_protocol id disks a.by) a fault.visit new fault.why

-- A load of an input, `i` before it and `now` after it, came to this: all that `load_one` says of it.
pub record IsLoadOf {S F D : Type 0} (id : Kind → List ℕ → List ℕ) (p : Parts S F) (disks : Disks D) (a : Attempt) (i now : Input S F) (old new : Kept D) (result : Result Loaded LoadFault) : Type 0 where
  pub ended : IfOk result (λ loaded. EndsVisit a old new loaded.visit (statuses_of loaded.end))
  pub end : IfOk result (λ loaded. IsJobEnd id p (held_bodies new) i now loaded.end)
  pub quiet : IfOk result (λ loaded. IsQuietEnd p i now loaded.end)
  pub heard : IfErr result (HeardNoFailure id p disks a i now new)
  pub short : IfOk result (λ loaded. end_room loaded.end ≤ detail_limit (kind_of i))
  pub adds : AddsVisit (AreAllowed id p i) a old.history new.history
  pub calls : disks.tells → MakesVisitCalls id disks (AreAllowed id p i) a old new
  pub wounded : (n : ℕ) → old.wounded ≡ Some n → IsHeldBack old new result
  pub stops : IfErr result (Stops id disks (AreAllowed id p i) a old new)
  pub later : NoCountFell disks old new
  pub same : IsSameInput p i now
