-- What stands at the paths of a job's input, and whether one of them has failed.
use Rattle.std.specs.Prelude.{ℕ, Option, Some, None, option_map, List, [], ◌∷◌, Contains}
use Rattle.swh_base.specs.declared.visit.VisitKind.{VisitKind}
use Rattle.swh_outside.specs.Faults.{Rose}
use Rattle.swh_inputs.specs.Input.{InputText}
use Rattle.swh_inputs.specs.Input.InputText.{StreamText, FolderText, BatchText}
use Rattle.swh_inputs.specs.Parts.{both_given}
use Rattle.swh_jobs.specs.Job.{JobInput, fields_of}
use Rattle.swh_jobs.specs.Job.JobInput.{StreamAt, FolderAt as FolderIn, BatchAt}
use Rattle.swh_exit.specs.Seen.{FileAt, FolderAt}

-- the kind of the visits that load it
abbrev pub kind_at : JobInput → VisitKind
kind_at input = (fields_of input).kind

-- the listing that stands at a path, or that there is none because none is named
abbrev pub listing_at : FileAt → Option (List ℕ) → Option (Option (List ℕ))
listing_at files None = Some None
listing_at files (Some path) = option_map Some (files path)

-- what an input holds, where something stands at each of its paths
abbrev pub found_at : FileAt → FolderAt → JobInput → Option InputText
found_at files folders (StreamAt path head) = option_map (StreamText head) (files path)
found_at files folders (FolderIn path modes) = both_given FolderText (folders path) (listing_at files modes)
found_at files folders (BatchAt path refs) = both_given BatchText (files path) (files refs)

-- the paths of an input
abbrev pub paths_of : JobInput → List (List ℕ)
paths_of (StreamAt path head) = path ∷ []
paths_of (FolderIn path None) = path ∷ []
paths_of (FolderIn path (Some modes)) = path ∷ modes ∷ []
paths_of (BatchAt path refs) = path ∷ refs ∷ []

-- A path of the input has failed, by how often each path had failed before and has failed now.
pub record HasFailed (failures failures_now : List ℕ → ℕ) (input : JobInput) : Type 0 where
  pub path : List ℕ
  pub among : Contains (paths_of input) path
  pub rose : Rose (failures path) (failures_now path)
