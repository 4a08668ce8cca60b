-- A load of a stream that is posted.
use Rattle.std.specs.Prelude.{ℕ, Result, List}
use Rattle.swh_base.specs.declared.kind.Kind.{Kind}
use Rattle.swh_base.specs.declared.visit.VisitKind.TheVariants.{Fast}
use Rattle.swh_outside.specs.Source.{Heard}
use Rattle.swh_outside.specs.Views.{Disks}
use Rattle.swh_keeper.specs.Kept.{Kept}
use Rattle.swh_ingest.specs.declared.end.LoadFault.{LoadFault}
use Rattle.swh_ingest.specs.Owning.{Attempt, attempt}
use Rattle.swh_inputs.specs.declared.input.Input.{Input}
use Rattle.swh_loader.specs.declared.end.Loaded.{Loaded}
use Rattle.swh_loader.specs.Leaving.{IsLoadOf}
use Rattle.swh_desk.specs.declared.body.NoFolder.{NoFolder}
use Rattle.swh_desk.specs.Body.{posted, posted_parts}

-- the number of the one worker, by whom the events of all posted loads are
abbrev pub worker : ℕ
worker = 1

-- the attempt to load a stream that is posted for an origin on this date
abbrev pub posted_attempt : List ℕ → ℕ → Attempt
posted_attempt origin date = attempt worker origin Fast date

module _ {D : Type 0} (id : Kind → List ℕ → List ℕ) (disks : Disks D) (date : ℕ) where
  -- The stream in a body was loaded as a new visit of an origin, and came to this: all that the loader says of a load. A crash at
  -- any of its device calls leaves what that says.
  pub record IsPosted (body origin : List ℕ) (old new : Kept D) (outcome : Result Loaded LoadFault) : Type 0 where
    pub now : Input Heard NoFolder
    pub load : IsLoadOf id posted_parts disks (posted_attempt origin date) (posted body) now old new outcome
