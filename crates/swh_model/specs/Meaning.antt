-- What an input makes: objects, and the snapshot among them, whose `HEAD` is an alias to the head where one is named.
use Rattle.std.specs.Prelude.{ℕ, List, [], ◌∷◌, Option, Some, None, codes}
use Rattle.std.specs.Ordering.{nat_cmp, match_ordering}
use Rattle.std.specs.Cmp.Lexicographic.{slice_cmp}
use Rattle.swh_base.specs.declared.kind.Kind.{Kind}
use Rattle.swh_base.specs.declared.kind.Kind.TheVariants.{Content, Directory}
use Rattle.swh_base.specs.Snapshot.{SnapshotBranch}
use Rattle.swh_base.specs.Snapshot.BranchTarget.{ToBranch}

-- an object that an input makes
pub record Made : Type 0 where
  pub kind : Kind
  pub body : List ℕ

-- what an input makes, and its snapshot's id
pub record StreamMeaning : Type 0 where
  pub objects : List Made
  pub snapshot : List ℕ

-- the content of these bytes
abbrev pub content : List ℕ → Made
content bytes = record { kind = Content; body = bytes }

-- the directory of this body
abbrev pub directory : List ℕ → Made
directory body = record { kind = Directory; body = body }

-- a branch at its place among branches that ascend by name, instead of one of its name
abbrev pub put_branch : SnapshotBranch → List SnapshotBranch → List SnapshotBranch
put_branch b [] = b ∷ []
put_branch b (c ∷ cs) = match_ordering (slice_cmp nat_cmp b.name c.name) (b ∷ c ∷ cs) (b ∷ cs) (c ∷ put_branch b cs)

-- the branch `HEAD`, an alias to this head
abbrev pub head_branch : List ℕ → SnapshotBranch
head_branch head = record { name = codes "HEAD"; target = ToBranch head }

-- branches with `HEAD` as an alias to the head, where one is named
abbrev pub with_head : Option (List ℕ) → List SnapshotBranch → List SnapshotBranch
with_head None branches = branches
with_head (Some head) branches = put_branch (head_branch head) branches
