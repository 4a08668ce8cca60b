-- The text of what is reached from a name: a stream (git-fast-import(1)) whose commands make it again.
use Rattle.std.specs.Prelude.{◌≡◌, ◌≢◌, ◌⊎◌, ℕ, ◌==◌, if◌then◌else◌, Option, Some, List, [], ◌∷◌, ◌++◌, Contains, codes}
use Rattle.std.specs.List.{flat_map}
use Rattle.swh_base.specs.declared.kind.Kind.{Kind}
use Rattle.swh_base.specs.declared.kind.Kind.TheVariants.{Content, Directory, Revision as RevisionKind, Release as ReleaseKind, Snapshot}
use Rattle.swh_base.specs.declared.name.Name.{Name}
use Rattle.swh_base.specs.Revision.{revision_name}
use Rattle.swh_base.specs.Snapshot.{SnapshotBranch, BranchTarget, ToObject, ToBranch, ToNothing}
use Rattle.swh_model.specs.Archive.{Bodies, body_of}
use Rattle.swh_revfmt.specs.Plain.{PlainRevision, IsPlainRevision, PlainRelease, IsPlainRelease}
use Rattle.swh_graph.specs.Path.{directory_name}
use Rattle.swh_graph.specs.Holding.{HoldsSnapshot}
use Rattle.swh_pathwalk.specs.Tree.{Row, IsPathWalk}
use Rattle.swh_fastwrite.specs.Text.{data_text, marked_line, blob_text, cook_branch, commit_head, file_line, project_line, tag_head, begin_text, tip_text, end_text}
use Rattle.swh_postorder.specs.Postorder.{IsPostorder}
use Rattle.swh_marks.specs.Marks.{mark_of}

-- the name of the content with this id
abbrev pub content_name : List ℕ → Name
content_name id = record { kind = Content; id = id }

module _ (order : List Name) where
  -- what stands for an entry of a tree: nothing for a folder
  abbrev pub file_text : Row → List ℕ
  file_text row =
      if row.entry.mode == 40000 then []
      else if row.entry.mode == 160000 then project_line row.entry.id row.path
      else file_line row.entry.mode (mark_of order (content_name row.entry.id)) row.path

  -- the lines of the files of a tree
  abbrev pub files_text : List Row → List ℕ
  files_text rows = flat_map file_text rows

  -- the line of this word that names a revision by its mark
  abbrev pub parent_line : List ℕ → List ℕ → List ℕ
  parent_line word id = marked_line word (mark_of order (revision_name id))

  -- the lines of the parents: `from` for the first, and `merge` for the others
  abbrev pub parents_text : List (List ℕ) → List ℕ
  parents_text [] = []
  parents_text (id ∷ ids) = parent_line (codes "from ") id ++ flat_map (parent_line (codes "merge ")) ids

-- where a revision has no parent, its branch begins anew
abbrev pub beginning : List (List ℕ) → List ℕ
beginning [] = begin_text cook_branch
beginning (id ∷ ids) = []

module _ (order : List Name) where
  -- a commit up to the lines of its files
  abbrev pub commit_front : Name → PlainRevision → List ℕ
  commit_front name plain =
      beginning plain.parents
      ++ (commit_head (mark_of order name) plain.rest.author plain.rest.committer plain.rest.encoding
      ++ (data_text plain.rest.message ++ (parents_text order plain.parents ++ codes "deleteall\n")))

  -- a commit
  abbrev pub commit_text : Name → PlainRevision → List Row → List ℕ
  commit_text name plain rows = commit_front name plain ++ (files_text order rows ++ 10 ∷ [])

  -- a tag
  abbrev pub tag_text : Name → PlainRelease → List ℕ
  tag_text name plain = tag_head plain.tag (mark_of order name) (mark_of order plain.object) plain.rest.tagger ++ data_text plain.rest.message

module _ (bodies : Bodies) (order : List Name) where
  -- the text of a content
  pub record IsBlob (name : Name) (text : List ℕ) : Type 0 where
    pub body : List ℕ
    pub held : body_of bodies name ≡ Some body
    pub is : text ≡ blob_text (mark_of order name) body

  -- the text of a revision
  pub record IsCommit (name : Name) (text : List ℕ) : Type 0 where
    pub body : List ℕ
    pub held : body_of bodies name ≡ Some body
    pub plain : PlainRevision
    pub is_plain : IsPlainRevision body plain
    pub rows : List Row
    pub walk : IsPathWalk bodies (directory_name plain.directory) rows
    pub is : text ≡ commit_text order name plain rows

  -- the text of a release
  pub record IsTag (name : Name) (text : List ℕ) : Type 0 where
    pub body : List ℕ
    pub held : body_of bodies name ≡ Some body
    pub plain : PlainRelease
    pub is_plain : IsPlainRelease body plain
    pub is : text ≡ tag_text order name plain

  -- the text of an object of this kind: nothing for a directory and a snapshot
  abbrev pub IsTextOf : Kind → Name → List ℕ → Type 0
  IsTextOf Content name text = IsBlob name text
  IsTextOf Directory name text = text ≡ []
  IsTextOf RevisionKind name text = IsCommit name text
  IsTextOf ReleaseKind name text = IsTag name text
  IsTextOf Snapshot name text = text ≡ []

  abbrev pub IsObjectText : Name → List ℕ → Type 0
  IsObjectText name text = IsTextOf name.kind name text

  -- the texts of objects, one after another
  abbrev pub AreObjectTexts : List Name → List ℕ → Type 0
  AreObjectTexts [] text = text ≡ []
  AreObjectTexts (name ∷ names) text = (a : List ℕ) × (b : List ℕ) × (text ≡ a ++ b) × IsObjectText name a × AreObjectTexts names b

module _ (order : List Name) where
  -- a tip where the object is a revision
  abbrev pub object_tip : List ℕ → Name → Kind → List ℕ
  object_tip branch n Content = []
  object_tip branch n Directory = []
  object_tip branch n RevisionKind = tip_text branch (mark_of order n)
  object_tip branch n ReleaseKind = []
  object_tip branch n Snapshot = []

  -- the text of what a branch leads to, where it is a revision
  abbrev pub target_tip : List ℕ → BranchTarget → List ℕ
  target_tip branch (ToObject n) = object_tip branch n n.kind
  target_tip branch (ToBranch other) = []
  target_tip branch ToNothing = []

  -- the text of branches
  abbrev pub tips_text : List SnapshotBranch → List ℕ
  tips_text branches = flat_map (λ (b : SnapshotBranch). target_tip b.name b.target) branches

module _ (bodies : Bodies) (order : List Name) (root : Name) where
  -- the branches of a root of this kind: of a revision it is one
  abbrev pub AreTipsOf : Kind → List ℕ → Type 0
  AreTipsOf Content text = text ≡ []
  AreTipsOf Directory text = text ≡ []
  AreTipsOf RevisionKind text = text ≡ tip_text (codes "refs/heads/main") (mark_of order root)
  AreTipsOf ReleaseKind text = text ≡ []
  AreTipsOf Snapshot text = (branches : List SnapshotBranch) × HoldsSnapshot bodies root branches × (text ≡ tips_text order branches)

  abbrev pub AreTips : List ℕ → Type 0
  AreTips text = AreTipsOf root.kind text

  -- A commit was written, and the branch of all commits is none of the root's.
  pub record LeavesBranch : Type 0 where
    pub commit : Name
    pub there : Contains order commit
    pub kind : commit.kind ≡ RevisionKind
    pub free : root.kind ≡ Snapshot → (branches : List SnapshotBranch) → HoldsSnapshot bodies root branches → (b : SnapshotBranch) → Contains branches b → b.name ≢ cook_branch

  -- what takes that branch away
  abbrev pub IsLast : List ℕ → Type 0
  IsLast text = (LeavesBranch × (text ≡ end_text cook_branch)) ⊎ ((LeavesBranch → ⊥) × (text ≡ []))

  -- The text is the stream of all in the order.
  pub record IsStreamText (text : List ℕ) : Type 0 where
    pub objects : List ℕ
    pub are_objects : AreObjectTexts bodies order order objects
    pub tips : List ℕ
    pub are_tips : AreTips tips
    pub last : List ℕ
    pub is_last : IsLast last
    pub is : text ≡ codes "feature done\n" ++ (objects ++ (tips ++ (last ++ codes "done\n")))

-- The text is the stream of a name of which all that is reached is held.
pub record IsStreamOf (bodies : Bodies) (children_of : Name → Option (List Name)) (root : Name) (text : List ℕ) : Type 0 where
  pub order : List Name
  pub is_order : IsPostorder children_of root order
  pub is : IsStreamText bodies order root text
