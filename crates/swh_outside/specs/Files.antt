-- Files by their numbers, and calls on any of them in one order.
use Rattle.std.specs.Prelude.{◌≡◌, ◌≢◌, ◌==◌, ℕ, cond, List, [], ◌∷◌, ◌++◌, take, map, Result, OnOk, OnErr}
use Rattle.swh_outside.specs.Disk.{File, Call, IsImage, IsFailedCall, done}

-- files by their numbers
abbrev pub Files : Type 0
Files = ℕ → File

-- a call on the file of a number
abbrev pub FileCall : Type 0
FileCall = ℕ × Call

-- calls on one file alone
abbrev pub on : ℕ → List Call → List FileCall
on n calls = map (λ call. (n, call)) calls

-- the files with another one under a number
abbrev pub with_file : ℕ → File → Files → Files
with_file n file files = λ k. cond (k == n) file (files k)

-- a file that is absent, with the bytes of an empty one
abbrev pub absent : File
absent = record { base = []; ranges = []; longest = 0; seen = []; calls = [] }

-- an archive's two files: the ledger under 0, the store under 1, and no others
abbrev pub files_of : File → File → Files
files_of ledger store = with_file 0 ledger (with_file 1 store (λ k. absent))

-- the files after a call that succeeded, and after a list of them
abbrev pub file_done : FileCall → Files → Files
file_done call files = with_file call.0 (done call.1 (files call.0)) files

-- the files after these calls, all of which succeeded
abbrev pub files_done : List FileCall → Files → Files
files_done [] files = files
files_done (call ∷ calls) files = files_done calls (file_done call files)

-- a call that failed breaks its file and leaves all others
pub record IsFileBroken (call : FileCall) (old new : Files) : Type 0 where
  pub broken : IsFailedCall call.1 (old call.0) (new call.0)
  pub others : (k : ℕ) → k ≢ call.0 → new k ≡ old k

-- the first calls of a plan were made, and the last of them failed
pub record FilesBreaks (plan : List FileCall) (old new : Files) : Type 0 where
  pub before : List FileCall
  pub call : FileCall
  pub after : List FileCall
  pub is : plan ≡ before ++ call ∷ after
  pub broken : IsFileBroken call (files_done before old) new

-- A run of a plan, a list of calls on files, in order: all of them at `Ok`, else up to one that failed.
pub record FilesRuns {T E : Type 0} (plan : List FileCall) (old new : Files) (result : Result T E) : Type 0 where
  pub ok : OnOk result (new ≡ files_done plan old)
  pub err : OnErr result (FilesBreaks plan old new)

-- one image of each file
abbrev pub Images : Type 0
Images = ℕ → List ℕ

-- Each is an image that a crash may leave of its file.
pub record AreImages (files : Files) (images : Images) : Type 0 where
  pub each : (k : ℕ) → IsImage (files k) (images k)

-- all images that a crash may leave, one of each file, have P together
pub record EachImages (files : Files) (P : Images → Type 0) : Type 0 where
  pub has : (images : Images) → AreImages files images → P images

-- after each number of a plan's calls, all images that a crash may leave have P together
pub record EachFilesMoment (plan : List FileCall) (files : Files) (P : Images → Type 0) : Type 0 where
  pub has : (n : ℕ) → EachImages (files_done (take n plan) files) P
