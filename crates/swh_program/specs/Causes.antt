-- Which lines of loads are full and which are short, and which inputs are bad.
use Rattle.std.specs.Prelude.{◌⊎◌, ℕ, Option, Some, None, Result, Ok, Err, List, Contains}
use Rattle.swh_base.specs.declared.kind.Kind.{Kind}
use Rattle.swh_base.specs.declared.name.Name.{Name}
use Rattle.swh_model.specs.Archive.{Bodies}
use Rattle.swh_inputs.specs.Input.{InputText, BreaksInput}
use Rattle.swh_inputs.specs.declared.bad.BadText.{BadText}
use Rattle.swh_loader.specs.declared.end.End.{End}
use Rattle.swh_loader.specs.declared.end.End.TheVariants.{Full, NotFound, Failed}
use Rattle.swh_loader.specs.declared.end.Loaded.{Loaded}
use Rattle.swh_ingest.specs.declared.stop.Stop.{Stop}
use Rattle.swh_ingest.specs.declared.stop.Stop.TheVariants as why
use Rattle.swh_ingest.specs.declared.end.LoadFault.{LoadFault}
use Rattle.swh_program.specs.Exact.{MeansCollision}

-- The visit ended as full.
abbrev pub IsFullEnd : End → Type 0
IsFullEnd (Full snapshot) = Unit {0}
IsFullEnd NotFound = ⊥
IsFullEnd (Failed bad) = ⊥

-- The line of this load is full.
abbrev pub IsFullLine : Result Loaded LoadFault → Type 0
IsFullLine (Ok loaded) = IsFullEnd loaded.end
IsFullLine (Err fault) = ⊥

-- The visit did not end as full.
abbrev pub IsShortEnd : End → Type 0
IsShortEnd (Full snapshot) = ⊥
IsShortEnd NotFound = Unit {0}
IsShortEnd (Failed bad) = Unit {0}

-- Neither a disk nor memory stopped it.
abbrev pub IsOtherStop : Stop → Type 0
IsOtherStop (why.Ended status) = Unit {0}
IsOtherStop why.DiskFault = ⊥
IsOtherStop why.Wounded = ⊥
IsOtherStop (why.Limit which number) = Unit {0}
IsOtherStop why.Memory = ⊥

-- The line of this load is neither full nor stopped by a disk or by memory.
abbrev pub IsShortLine : Result Loaded LoadFault → Type 0
IsShortLine (Ok loaded) = IsShortEnd loaded.end
IsShortLine (Err fault) = IsOtherStop fault.why

-- One of these lines is short.
pub record HasShortLine (ended : List (Result Loaded LoadFault)) : Type 0 where
  pub outcome : Result Loaded LoadFault
  pub among : Contains ended outcome
  pub short : IsShortLine outcome

-- Under some name this input would put a second body.
abbrev pub HasTwoBodies : (Kind → List ℕ → List ℕ) → Bodies → InputText → Type 0
HasTwoBodies id_of bodies text = (name : Name) × MeansCollision id_of bodies text name

-- The input breaks in some way.
abbrev pub IsBroken : (Kind → List ℕ → List ℕ) → InputText → Type 0
IsBroken id_of text = (bad : BadText) × BreaksInput id_of text bad

-- The input is not all there, breaks, or would put a second body under some name.
abbrev pub IsBadInput : (Kind → List ℕ → List ℕ) → Bodies → Option InputText → Type 0
IsBadInput id_of bodies None = Unit {0}
IsBadInput id_of bodies (Some text) = IsBroken id_of text ⊎ HasTwoBodies id_of bodies text
