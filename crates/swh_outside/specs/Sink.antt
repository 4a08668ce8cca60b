-- What a sink takes, and what a yard makes.
use Rattle.std.specs.Prelude.{◌≡◌, ℕ, List, ◌++◌, take, Result, OnOk, OnErr, Any}

-- the first few of some bytes were appended
pub record TakesSome (before bytes now : List ℕ) : Type 0 where
  pub count : ℕ
  pub is : now ≡ before ++ take count bytes

-- all bytes were appended, or at an error the first few of them
pub record IsPut {T E : Type 0} (before bytes now : List ℕ) (result : Result T E) : Type 0 where
  pub ok : OnOk result (now ≡ before ++ bytes)
  pub err : OnErr result (TakesSome before bytes now)

-- What was begun at a path: a folder, or a file with the number of bytes that were put before it. The file's bytes are
-- those put from there on, up to the place of the next file that was begun.
pub data Begun : Type 0 where
  FolderAt : List ℕ → Begun
  FileAt : List ℕ → ℕ → Begun

-- where it was begun
abbrev pub path_of : Begun → List ℕ
path_of (FolderAt path) = path
path_of (FileAt path at) = path

-- something was begun at the path
abbrev pub IsBegunAt : List ℕ → List Begun → Type 0
IsBegunAt path begun = Any (λ b. path_of b ≡ path) begun
