-- The commands of what is cooked (git-fast-import(1), commands): what they say, wherever their lines stand.
use Rattle.std.specs.Prelude.{◌≡◌, ◌⊎◌, ℕ, ◌==◌, if◌then◌else◌, Some, List, [], ◌∷◌, ◌++◌, map, codes}
use Rattle.std.specs.List.{flat_map}
use Rattle.swh_base.specs.declared.kind.Kind.{Kind}
use Rattle.swh_base.specs.declared.kind.Kind.TheVariants.{Content, Directory, Revision as RevisionKind, Release as ReleaseKind, Snapshot}
use Rattle.swh_base.specs.declared.name.Name.{Name}
use Rattle.swh_base.specs.Revision.{revision_name}
use Rattle.swh_base.specs.Snapshot.{SnapshotBranch, ToObject, ToBranch, ToNothing}
use Rattle.swh_model.specs.Archive.{Bodies, body_of}
use Rattle.swh_revfmt.specs.Plain.{PlainRevision, IsPlainRevision, PlainRelease, IsPlainRelease}
use Rattle.swh_graph.specs.Holding.{HoldsSnapshot}
use Rattle.swh_graph.specs.Path.{directory_name}
use Rattle.swh_pathwalk.specs.Tree.{Row, IsPathWalk}
use Rattle.swh_fastwrite.specs.Text.{cook_branch}
use Rattle.swh_fastgrammar.specs.declared.command.At.{At}
use Rattle.swh_fastgrammar.specs.declared.command.Commitish.{Commitish}
use Rattle.swh_fastgrammar.specs.declared.command.Commitish.TheVariants.{Mark}
use Rattle.swh_fastgrammar.specs.declared.command.Start.{Start}
use Rattle.swh_fastgrammar.specs.declared.command.Start.TheVariants.{Absent, NoTip, Of}
use Rattle.swh_fastgrammar.specs.declared.command.Dataref.TheVariants.{Mark as MarkOf, Hex}
use Rattle.swh_fastgrammar.specs.declared.command.Change.{Change}
use Rattle.swh_fastgrammar.specs.declared.command.Change.TheVariants.{Set, Clear}
use Rattle.swh_fastgrammar.specs.declared.command.Command.{Command}
use Rattle.swh_fastgrammar.specs.declared.command.Command.TheVariants.{Blob, Commit, Tag, Reset}
use Rattle.swh_marks.specs.Marks.{mark_of}
use Rattle.swh_fastcook.specs.Stream.{content_name, LeavesBranch}

-- what is said, places aside
abbrev pub said : {X : Type 0} → List (At X) → List X
said list = map (λ a. a.it) list

-- a branch without a tip, where a revision has no parent
abbrev pub begin_commands : List (List ℕ) → List Command
begin_commands [] = Reset cook_branch Absent ∷ []
begin_commands (id ∷ ids) = []

module _ (order : List Name) where
  -- a revision by its mark
  abbrev pub commit_of : List ℕ → Commitish
  commit_of id = Mark (mark_of order (revision_name id))

  -- what sets an entry at its path: nothing for a folder
  abbrev pub changes_for : Row → List Change
  changes_for row =
      if row.entry.mode == 40000 then []
      else if row.entry.mode == 160000 then Set 160000 (Hex row.entry.id) row.path ∷ []
      else Set row.entry.mode (MarkOf (mark_of order (content_name row.entry.id))) row.path ∷ []

  -- what a commit of these parents starts from, and what it merges
  abbrev pub StartsFrom : List (List ℕ) → Start → List (At Commitish) → Type 0
  StartsFrom [] start merges = (start ≡ Absent) × (merges ≡ [])
  StartsFrom (id ∷ ids) start merges = (a : At Commitish) × (start ≡ Of a) × (a.it ≡ commit_of id) × (said merges ≡ map commit_of ids)

  -- The command is a commit of these parts, with these files.
  pub record IsCommitOf (name : Name) (plain : PlainRevision) (rows : List Row) (command : Command) : Type 0 where
    pub start : Start
    pub merges : List (At Commitish)
    pub changes : List (At Change)
    pub is : command ≡ Commit cook_branch (Some (mark_of order name)) (Some plain.rest.author) plain.rest.committer plain.rest.encoding plain.rest.message start merges changes
    pub starts : StartsFrom plain.parents start merges
    pub files : said changes ≡ Clear ∷ flat_map changes_for rows

  -- The command is a tag of these parts.
  pub record IsTagOf (name : Name) (plain : PlainRelease) (command : Command) : Type 0 where
    pub object : At Commitish
    pub is : command ≡ Tag plain.tag (Some (mark_of order name)) object plain.rest.tagger plain.rest.message
    pub named : object.it ≡ Mark (mark_of order plain.object)

  -- Commands that set these branches, one after another, to these revisions.
  abbrev pub AreTips : List (List ℕ × Name) → List Command → Type 0
  AreTips [] commands = commands ≡ []
  AreTips (tip ∷ tips) commands = (a : At Commitish) × (more : List Command) × (commands ≡ Reset tip.0 (Of a) ∷ more) × (a.it ≡ Mark (mark_of order tip.1)) × AreTips tips more

module _ (bodies : Bodies) (order : List Name) where
  -- the command of a content
  pub record IsBlobCommand (name : Name) (commands : List Command) : Type 0 where
    pub body : List ℕ
    pub held : body_of bodies name ≡ Some body
    pub is : commands ≡ Blob (Some (mark_of order name)) body ∷ []

  -- the commands of a revision
  pub record AreCommitCommands (name : Name) (commands : List Command) : Type 0 where
    pub body : List ℕ
    pub held : body_of bodies name ≡ Some body
    pub plain : PlainRevision
    pub is_plain : IsPlainRevision body plain
    pub rows : List Row
    pub walk : IsPathWalk bodies (directory_name plain.directory) rows
    pub command : Command
    pub commit : IsCommitOf order name plain rows command
    pub is : commands ≡ begin_commands plain.parents ++ command ∷ []

  -- the command of a release
  pub record IsTagCommand (name : Name) (commands : List Command) : Type 0 where
    pub body : List ℕ
    pub held : body_of bodies name ≡ Some body
    pub plain : PlainRelease
    pub is_plain : IsPlainRelease body plain
    pub command : Command
    pub tag : IsTagOf order name plain command
    pub is : commands ≡ command ∷ []

  -- the commands of an object of this kind: none for a directory and a snapshot
  abbrev pub AreCommandsOf : Kind → Name → List Command → Type 0
  AreCommandsOf Content name commands = IsBlobCommand name commands
  AreCommandsOf Directory name commands = commands ≡ []
  AreCommandsOf RevisionKind name commands = AreCommitCommands name commands
  AreCommandsOf ReleaseKind name commands = IsTagCommand name commands
  AreCommandsOf Snapshot name commands = commands ≡ []

  -- those of some objects, one after another
  abbrev pub AreObjectCommands : List Name → List Command → Type 0
  AreObjectCommands [] commands = commands ≡ []
  AreObjectCommands (name ∷ names) commands =
      (own : List Command) × (more : List Command) × (commands ≡ own ++ more) × AreCommandsOf name.kind name own × AreObjectCommands names more

-- the branch to an object of this kind, where it is a revision
abbrev pub object_tips : List ℕ → Name → Kind → List (List ℕ × Name)
object_tips branch n Content = []
object_tips branch n Directory = []
object_tips branch n RevisionKind = (branch, n) ∷ []
object_tips branch n ReleaseKind = []
object_tips branch n Snapshot = []

-- the same of any branch
abbrev pub branch_tips : SnapshotBranch → List (List ℕ × Name)
branch_tips b = elim b.target [ ToObject n ↦ object_tips b.name n n.kind | ToBranch other ↦ [] | ToNothing ↦ [] ]

module _ (bodies : Bodies) (order : List Name) (root : Name) where
  -- the branches that are set for a root of this kind
  abbrev pub AreRootTips : Kind → List (List ℕ × Name) → Type 0
  AreRootTips Content tips = tips ≡ []
  AreRootTips Directory tips = tips ≡ []
  AreRootTips RevisionKind tips = tips ≡ (codes "refs/heads/main", root) ∷ []
  AreRootTips ReleaseKind tips = tips ≡ []
  AreRootTips Snapshot tips = (branches : List SnapshotBranch) × HoldsSnapshot bodies root branches × (tips ≡ flat_map branch_tips branches)

  -- what takes the branch of all commits away, where it is left
  abbrev pub AreLastCommands : List Command → Type 0
  AreLastCommands commands = (LeavesBranch bodies order root × (commands ≡ Reset cook_branch NoTip ∷ [])) ⊎ ((LeavesBranch bodies order root → ⊥) × (commands ≡ []))

  -- The commands are those of the stream of all in the order.
  pub record AreStreamCommands (commands : List Command) : Type 0 where
    pub objects : List Command
    pub are_objects : AreObjectCommands bodies order order objects
    pub tips : List (List ℕ × Name)
    pub are_tips : AreRootTips root.kind tips
    pub resets : List Command
    pub are_resets : AreTips order tips resets
    pub last : List Command
    pub are_last : AreLastCommands last
    pub is : commands ≡ objects ++ (resets ++ last)
