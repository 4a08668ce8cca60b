-- How a commit is made, step by step.
use Rattle.std.specs.Prelude.{◌≡◌, ◌⊎◌, ℕ, ◌<◌, List, [], ◌∷◌, ◌++◌, length, Option, Result, Ok, Err, unwrap_or}
use Rattle.std.specs.Option.{option_map}
use Rattle.swh_base.specs.declared.kind.Kind.{Kind}
use Rattle.swh_base.specs.declared.kind.Kind.TheVariants.{Revision}
use Rattle.swh_base.specs.declared.name.Name.{Name}
use Rattle.swh_base.specs.declared.entry.Entry.{Entry}
use Rattle.swh_base.specs.declared.visit.Which.TheVariants.{Body}
use Rattle.swh_base.specs.Limits.{body_limit}
use Rattle.swh_revfmt.specs.Plain.{RevisionRest}
use Rattle.swh_model.specs.Meaning.{Made}
use Rattle.swh_trees.specs.declared.tree.Tree.{Tree}
use Rattle.swh_trees.specs.Grove.{Grove, Keeps, map_of}
use Rattle.swh_trees.specs.Makes.{Makes}
use Rattle.swh_dedup.specs.Making.{made, name_of, object_of}
use Rattle.swh_fastgrammar.specs.declared.command.At.{At}
use Rattle.swh_fastgrammar.specs.declared.command.Commitish.{Commitish}
use Rattle.swh_fastgrammar.specs.declared.command.Command.{Command}
use Rattle.swh_fastgrammar.specs.declared.command.Command.TheVariants.{Commit as CommitCommand}
use Rattle.swh_fastmeaning.specs.Aims.{Aim, AllAims, Missing, aim_with}
use Rattle.swh_fastmeaning.specs.Changes.{AreShort, IsOver, changed_of}
use Rattle.swh_fastmeaning.specs.Commands.{Changed, IsDirectoryIn, first_parent, commits_at, parents_of, starting_tree, all_changed}
use Rattle.swh_dedup.specs.Giving.{Gives}
use Rattle.swh_fastload.specs.declared.commit.Commit.{Commit}
use Rattle.swh_fastload.specs.declared.commit.Prepared.{Prepared}
use Rattle.swh_fastload.specs.declared.commit.CommitText.{CommitText}
use Rattle.swh_fastmeaning.specs.declared.feed_fault.FeedFault.{FeedFault}
use Rattle.swh_fastmeaning.specs.declared.feed_fault.FeedFault.TheVariants.{BadStream, Limit, Memory}

-- the rest of the plain revision of a commit
abbrev pub rest_of : CommitText → RevisionRest
rest_of t = record { author = unwrap_or t.author t.committer; committer = t.committer; encoding = t.encoding; message = t.message }

-- the command
abbrev pub command_of : Commit → CommitText → Command
command_of c t = CommitCommand c.branch c.mark t.author t.committer t.encoding t.message c.parent c.merges c.changes

-- The ids are those of the first parent, where there is one, and of the commits that the lines name.
pub record HasParents {T : Type 0} (aims : AllAims T) (first : Option (Aim T)) (merges : List (At Commitish)) (ids : List (List ℕ)) : Type 0 where
  pub others : List (Aim T)
  pub found : commits_at aims merges ≡ Ok others
  pub are : ids ≡ parents_of first others

-- The first content above the limit has so many bytes.
abbrev pub ExplainsOver : List Made → FeedFault → Type 0
ExplainsOver contents (BadStream at why) = ⊥
ExplainsOver contents (Limit which number) = (which ≡ Body) × IsOver contents number
ExplainsOver contents Memory = ⊥

-- what a commit makes, in the order of making
abbrev pub commit_made : List Entry → List Entry → List ℕ → List Made
commit_made contents directories body = made contents ++ (made directories ++ object_of Revision body ∷ [])

module _ (id : Kind → List ℕ → List ℕ) where
  -- The changes make this tree, whose directories are made, with these contents.
  pub record MakesTree (changes : Result Changed Missing) (old new : Grove) (tree : Tree) (root : List ℕ) (directories contents : List Entry) : Type 0 where
    pub changed : Changed
    pub between : Grove
    pub is : changes ≡ Ok changed
    pub keeps : Keeps old between
    pub makes : Makes id between new changed.tree tree root directories
    pub holds : made contents ≡ changed.contents
    pub short : AreShort changed.contents

  -- The first content that the changes make above the limit has this many bytes; or no content is, and a directory has.
  pub record IsOverIn (changes : Result Changed Missing) (number : ℕ) : Type 0 where
    pub changed : Changed
    pub is : changes ≡ Ok changed
    pub object : Made
    pub long : number ≡ length object.body
    pub above : body_limit < number
    pub before : List Made
    pub rest : List Made
    pub cut : changed.contents ≡ before ++ rest
    pub short : AreShort before
    pub first : ((more : List Made) × (rest ≡ object ∷ more)) ⊎ ((rest ≡ []) × IsDirectoryIn id changed.tree object)

  -- Why no tree is made: the fault is what is missing, or else the length of a content or a directory above the limit.
  -- Of want of memory nothing is said.
  abbrev pub ExplainsTreeMade : Result Changed Missing → FeedFault → Type 0
  ExplainsTreeMade changes (BadStream at why) = changes ≡ Err (record { at = at; why = why })
  ExplainsTreeMade changes (Limit which number) = (which ≡ Body) × IsOverIn changes number
  ExplainsTreeMade changes Memory = Unit {0}

  -- The contents, directories and the revision of this body are given where they are new, and this is the revision's name.
  pub record GivesCommit (ms : List Made) (body : List ℕ) (old new : List Made) (name : Name) (objects : List Entry) : Type 0 where
    pub gives : Gives id ms old new objects
    pub named : name ≡ name_of id (object_of Revision body)

  -- The parents are found, and the tree is made.
  pub record IsPrepared {N : Type 0} (old : Grove) (aims : AllAims Tree) (commit : Commit) (new : Grove) (prepared : Prepared N) : Type 0 where
    pub first : Option (Aim Tree)
    pub start : Tree
    pub found : first_parent aims commit.branch commit.parent ≡ Ok first
    pub parents : HasParents aims first commit.merges prepared.parents.items
    pub starts : map_of old start ≡ starting_tree (option_map (aim_with (map_of old)) first)
    pub makes : MakesTree (all_changed id aims commit.changes (changed_of (map_of old start) [])) old new prepared.made.tree prepared.made.id prepared.made.objects.items prepared.contents.items
