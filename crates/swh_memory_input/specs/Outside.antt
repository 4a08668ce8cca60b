-- What the origins in memory hold, and what is kept of their calls.
use Rattle.std.specs.Prelude.{◌≡◌, ◌≢◌, ◌<◌, ◌≤◌, ℕ, Bool, List, Option, Some, None, string_bytes}
use Rattle.std.specs.Str.{bytes_eq}
use Rattle.swh_outside.specs.Firsts.{first_or}
use Rattle.swh_outside.specs.Counts.{count_at, is_counted}
use Rattle.swh_outside.specs.Faults.{Rose, one_more}
use Rattle.swh_outside.specs.Folder.{Tree}
use Rattle.swh_outside.specs.Opened.{IsFailed, UnlessFailed, UnlessMemory}
use Rattle.swh_outside.specs.declared.fault.Opened.{Opened}
use Rattle.swh_memory_failures.specs.Answers.{opening_failed, with_given_back}
use Rattle.swh_memory_failures.specs.Tally.{Tally, fresh_tally, is_next_listed, tallied}
use Rattle.swh_memory_input.specs.Folders.{tree_at}
use Rattle.swh_memory_input.specs.declared.folder_input.FolderInput.{FolderInput}
use Rattle.swh_memory_input.specs.declared.input.Input.{Input}
use Rattle.swh_memory_input.specs.declared.origins.MemoryOrigins.{MemoryOrigins}

-- it stands at this path
abbrev pub is_for : List ℕ → Input → Bool
is_for path input = bytes_eq (string_bytes input.path) path

-- its bytes, for an input that is there
abbrev pub input_bytes : Input → Option (List ℕ)
input_bytes input = Some input.bytes.items

-- the bytes of the first input at a path
abbrev pub input_at : List Input → List ℕ → Option (List ℕ)
input_at inputs path = first_or (is_for path) input_bytes None inputs

-- the greatest piece of the first input's source at a path, and which of its calls fail
abbrev pub input_making : Input → Option (ℕ × Tally)
input_making input = Some (input.piece, fresh_tally input.failing.items)

-- the same at a path, where an input stands
abbrev pub made_at : List Input → List ℕ → Option (ℕ × Tally)
made_at inputs path = first_or (is_for path) input_making None inputs

-- the inputs that it was made with
abbrev pub origin_inputs : MemoryOrigins → List Input
origin_inputs origins = origins.inputs.items

-- the bytes at each path
abbrev pub origin_files : MemoryOrigins → List ℕ → Option (List ℕ)
origin_files origins = input_at origins.inputs.items

-- the folders that it was made with
abbrev pub origin_folder_inputs : MemoryOrigins → List FolderInput
origin_folder_inputs origins = origins.folders.items

-- what the folder at each path holds
abbrev pub origin_folders : MemoryOrigins → List ℕ → Option Tree
origin_folders origins = tree_at origins.folders.items

-- which of its openings are to fail, and how often it failed
abbrev pub origin_tally : MemoryOrigins → Tally
origin_tally origins = origins.failures

-- how often it has failed
abbrev pub origin_faults : MemoryOrigins → ℕ
origin_faults origins = origins.failures.faults

-- how often it has failed at each path
abbrev pub origin_path_faults : MemoryOrigins → List ℕ → ℕ
origin_path_faults origins = count_at origins.counts

-- the path has a count of its own
abbrev pub has_origin_place : MemoryOrigins → List ℕ → Type 0
has_origin_place origins = is_counted origins.counts

-- What stands outside stays as the origins were made with it.
pub record SameOutside (old new : MemoryOrigins) : Type 0 where
  pub inputs : origin_inputs new ≡ origin_inputs old
  pub folders : origin_folder_inputs new ≡ origin_folder_inputs old

-- No count falls, and a path that has a count of its own keeps it.
pub record KeepsCounts (old new : MemoryOrigins) : Type 0 where
  pub later : origin_faults old ≤ origin_faults new
  pub path_later : (p : List ℕ) → origin_path_faults old p ≤ origin_path_faults new p
  pub places : (p : List ℕ) → has_origin_place old p → has_origin_place new p

-- An opening at a path that ends so is counted: memory apart it fails exactly where its number is listed, and then it counts once,
-- in all and at its path, and at no other.
pub record CountsOpening {T : Type 0} (path : List ℕ) (result : Opened T) (old new : MemoryOrigins) : Type 0 where
  pub fails : UnlessMemory result (opening_failed result ≡ is_next_listed (origin_tally old))
  pub counted : origin_tally new ≡ tallied (opening_failed result) (origin_tally old)
  pub cause : IsFailed result → Rose (origin_faults old) (origin_faults new)
  pub path_counted : IsFailed result → origin_path_faults new path ≡ one_more (origin_path_faults old path)
  pub quiet : UnlessFailed result (origin_faults new ≡ origin_faults old)
  pub path_quiet : UnlessFailed result (origin_path_faults new path ≡ origin_path_faults old path)
  pub other_paths : (p : List ℕ) → p ≢ path → origin_path_faults new p ≡ origin_path_faults old p
  pub place : UnlessMemory result (has_origin_place new path)

-- What was opened at a path and has failed so often is given back: where it has failed it counts once, in all and at its path.
pub record CountsGivenBack (path : List ℕ) (faults : ℕ) (old new : MemoryOrigins) : Type 0 where
  pub counted : origin_tally new ≡ with_given_back faults (origin_tally old)
  pub cause : 0 < faults → Rose (origin_faults old) (origin_faults new)
  pub path_counted : 0 < faults → origin_path_faults new path ≡ one_more (origin_path_faults old path)
  pub quiet : faults ≡ 0 → origin_faults new ≡ origin_faults old
  pub path_quiet : faults ≡ 0 → (p : List ℕ) → origin_path_faults new p ≡ origin_path_faults old p
  pub other_paths : (p : List ℕ) → p ≢ path → has_origin_place old p → origin_path_faults new p ≡ origin_path_faults old p
