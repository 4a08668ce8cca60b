-- The end of a stream: the branches of what was cooked, and what takes the branch of all commits away.
use Rattle.std.specs.Prelude.{◌≡◌, ◌≢◌, ℕ, Bool, true, false, List, [], ◌++◌, Contains, codes}
use Rattle.swh_base.specs.declared.kind.Kind.{Kind}
use Rattle.swh_base.specs.declared.kind.Kind.TheVariants.{Content, Directory, Revision as RevisionKind, Release, Snapshot}
use Rattle.swh_base.specs.declared.name.Name.{Name}
use Rattle.swh_base.specs.Snapshot.{SnapshotBranch}
use Rattle.swh_model.specs.Archive.{Bodies}
use Rattle.swh_fastwrite.specs.Text.{cook_branch, tip_text, end_text}
use Rattle.swh_marks.specs.Marks.{mark_of}
use Rattle.swh_fastcook.specs.Stream.{AreTips, IsLast}

-- A revision is one of the names.
pub record HasRevision (names : List Name) : Type 0 where
  pub commit : Name
  pub there : Contains names commit
  pub kind : commit.kind ≡ RevisionKind

-- None of these is the branch of all commits.
abbrev pub LackCookBranch : List SnapshotBranch → Type 0
LackCookBranch branches = (b : SnapshotBranch) → Contains branches b → b.name ≢ cook_branch

-- what takes the branch of all commits away, where that is to be
abbrev pub end_or_none : Bool → List ℕ
end_or_none true = end_text cook_branch
end_or_none false = []

-- the branch of a root of this kind, where it is a revision
abbrev pub main_tip : List Name → Name → Kind → List ℕ
main_tip order root Content = []
main_tip order root Directory = []
main_tip order root RevisionKind = tip_text (codes "refs/heads/main") (mark_of order root)
main_tip order root Release = []
main_tip order root Snapshot = []

-- The text is what stands behind the objects of a stream.
pub record IsEnd (bodies : Bodies) (order : List Name) (root : Name) (text : List ℕ) : Type 0 where
  pub tips : List ℕ
  pub are_tips : AreTips bodies order root tips
  pub last : List ℕ
  pub is_last : IsLast bodies order root last
  pub is : text ≡ tips ++ (last ++ codes "done\n")
