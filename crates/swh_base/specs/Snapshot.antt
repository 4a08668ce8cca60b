-- Snapshot bodies (SWHID, core identifiers, snapshots): branches and what they lead to.
use Rattle.std.specs.Prelude.{◌≡◌, ◌≢◌, ℕ, ◌<◌, ◌^◌, List, [], ◌∷◌, ◌++◌, length, Option, Some, None, Contains, decimal, codes}
use Rattle.std.specs.Ordering.{nat_cmp}
use Rattle.std.specs.declared.cmp.Ordering.TheVariants.{Less}
use Rattle.std.specs.Cmp.Lexicographic.{slice_cmp}
use Rattle.std.specs.List.{flat_map, filter_map, AllByRecursion}
use Rattle.swh_base.specs.declared.kind.Kind.{Kind}
use Rattle.swh_base.specs.declared.kind.Kind.TheVariants.{Content, Directory, Revision, Release, Snapshot}
use Rattle.swh_base.specs.declared.name.Name.{Name}

-- what a branch leads to: an object, another branch by its name, or nothing
pub data BranchTarget : Type 0 where
  ToObject : Name → BranchTarget
  ToBranch : List ℕ → BranchTarget
  ToNothing : BranchTarget

-- a branch: its name and what it leads to
pub record SnapshotBranch : Type 0 where
  pub name : List ℕ
  pub target : BranchTarget

-- the words of the targets' kinds
abbrev pub target_kind_word : Kind → List ℕ
target_kind_word Content = codes "content"
target_kind_word Directory = codes "directory"
target_kind_word Revision = codes "revision"
target_kind_word Release = codes "release"
target_kind_word Snapshot = codes "snapshot"

-- the word that stands for what a branch leads to
abbrev pub target_word : BranchTarget → List ℕ
target_word (ToObject n) = target_kind_word n.kind
target_word (ToBranch name) = codes "alias"
target_word ToNothing = codes "dangling"

-- the bytes that name what a branch leads to: an object's id, the other branch's name, or none
abbrev pub target_bytes : BranchTarget → List ℕ
target_bytes (ToObject n) = n.id
target_bytes (ToBranch name) = name
target_bytes ToNothing = []

-- An object's id has twenty bytes, and an alias is not empty; its length is one that a machine has.
abbrev pub IsTarget : BranchTarget → Type 0
IsTarget (ToObject n) = length n.id ≡ 20
IsTarget (ToBranch name) = (name ≢ []) × (length name < 2 ^ 64)
IsTarget ToNothing = Unit {0}

-- The name has a byte and no NUL, and the target is one.
pub record IsBranch (branch : SnapshotBranch) : Type 0 where
  pub not_empty : branch.name ≢ []
  pub no_nul : Contains branch.name 0 → ⊥
  pub target : IsTarget branch.target

-- The first name comes before the second, byte by byte.
abbrev pub BranchIsBefore : SnapshotBranch → SnapshotBranch → Type 0
BranchIsBefore a b = slice_cmp nat_cmp a.name b.name ≡ Less

-- Each is a branch, and their names strictly ascend.
abbrev pub AreBranches : List SnapshotBranch → Type 0
AreBranches [] = Unit {0}
AreBranches (b ∷ bs) = IsBranch b × AllByRecursion (λ other. BranchIsBefore b other) bs × AreBranches bs

-- the target's word, a space, the name, a NUL, the target's length in decimal, a colon, and the target
abbrev pub branch_text : SnapshotBranch → List ℕ
branch_text b = target_word b.target ++ 32 ∷ (b.name ++ 0 ∷ (decimal (length (target_bytes b.target)) ++ 58 ∷ target_bytes b.target))

-- the texts of the branches, one after another
abbrev pub snapshot_text : List SnapshotBranch → List ℕ
snapshot_text branches = flat_map branch_text branches

-- The body is a snapshot with these branches.
pub record IsSnapshot (body : List ℕ) (branches : List SnapshotBranch) : Type 0 where
  pub text : body ≡ snapshot_text branches
  pub good : AreBranches branches

-- the name of the snapshot with this id
abbrev pub snapshot_name : List ℕ → Name
snapshot_name id = record { kind = Snapshot; id = id }

-- An alias is no child, and nor is nothing.
abbrev pub branch_child : SnapshotBranch → Option Name
branch_child b = elim b.target [ ToObject n ↦ Some n | ToBranch name ↦ None | ToNothing ↦ None ]

-- These names are the children of a snapshot's body, in its order.
pub record AreSnapshotChildren (body : List ℕ) (names : List Name) : Type 0 where
  pub branches : List SnapshotBranch
  pub is : IsSnapshot body branches
  pub kids : names ≡ filter_map branch_child branches
