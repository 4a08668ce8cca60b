-- How an input was found: its parts in the order in which they are written, of which the first that is not there decides.
use Rattle.std.specs.Prelude.{Option, Some, None}
use Rattle.swh_base.specs.declared.visit.VisitKind.{VisitKind}
use Rattle.swh_base.specs.declared.visit.VisitKind.TheVariants as visit
use Rattle.swh_outside.specs.declared.fault.Opened.{Opened}
use Rattle.swh_outside.specs.declared.fault.Opened.TheVariants as opened
use Rattle.swh_ingest.specs.declared.input.Opening.{Opening}
use Rattle.swh_ingest.specs.declared.input.Opening.TheVariants.{Found, NotFound, Failed, Memory}
use Rattle.swh_inputs.specs.declared.input.Input.{Input}
use Rattle.swh_inputs.specs.declared.input.Input.TheVariants.{Fast, Dir, Batch}

-- how a part was found
abbrev pub found_as : {T : Type 0} → Opened T → Opening
found_as (opened.Found part) = Found
found_as opened.NotFound = NotFound
found_as opened.Failed = Failed
found_as opened.Memory = Memory

-- how a listing was found: one that is not named is wanted by nobody
abbrev pub listing_found : {T : Type 0} → Option (Opened T) → Opening
listing_found None = Found
listing_found (Some part) = found_as part

-- how two parts were found
abbrev pub found_first : Opening → Opening → Opening
found_first Found second = second
found_first NotFound second = NotFound
found_first Failed second = Failed
found_first Memory second = Memory

-- how an input was found
abbrev pub opening_of : {S F : Type 0} → Input S F → Opening
opening_of (Fast stream head) = found_as stream
opening_of (Dir folder modes) = found_first (found_as folder) (listing_found modes)
opening_of (Batch objects refs) = found_first (found_as objects) (found_as refs)

-- the kind of the visits that load it
abbrev pub kind_of : {S F : Type 0} → Input S F → VisitKind
kind_of (Fast stream head) = visit.Fast
kind_of (Dir folder modes) = visit.Dir
kind_of (Batch objects refs) = visit.Batch
