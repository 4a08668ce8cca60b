-- What the commands of a stream make (git-fast-import(1), commands): objects, marks and tips, or the first mark, tip or
-- source that is not there. `id` gives the id of a kind and a body.
use Rattle.std.specs.Prelude.{◌≡◌, ◌⊎◌, ℕ, Contains, List, [], ◌∷◌, ◌++◌, map, Option, Some, None, Result, Ok, Err, unwrap_or, codes}
use Rattle.swh_base.specs.declared.kind.Kind.{Kind}
use Rattle.swh_base.specs.declared.kind.Kind.TheVariants.{Content, Directory, Revision, Release}
use Rattle.swh_base.specs.declared.name.Name.{Name}
use Rattle.swh_base.specs.Directory.{directory_text}
use Rattle.swh_revfmt.specs.Plain.{RevisionRest, PlainRevision, PlainRelease, plain_revision_text, plain_release_text}
use Rattle.swh_model.specs.Meaning.{Made, content, directory}
use Rattle.swh_fastlex.specs.Path.{components}
use Rattle.swh_forest.specs.PathMap.{PathMap, HasFolder, held, set, delete, copy, rename}
use Rattle.swh_trees.specs.Directory.{directory_of}
use Rattle.swh_fastgrammar.specs.declared.command.At.{At}
use Rattle.swh_fastgrammar.specs.declared.command.Commitish.{Commitish}
use Rattle.swh_fastgrammar.specs.declared.command.Start.{Start}
use Rattle.swh_fastgrammar.specs.declared.command.Start.TheVariants.{Absent, NoTip, Of}
use Rattle.swh_fastgrammar.specs.declared.command.Dataref.{Dataref}
use Rattle.swh_fastgrammar.specs.declared.command.Dataref.TheVariants.{Mark, Inline, Hex}
use Rattle.swh_fastgrammar.specs.declared.command.Change.{Change}
use Rattle.swh_fastgrammar.specs.declared.command.Change.TheVariants.{Set, Delete, Copy, Move, Clear}
use Rattle.swh_fastgrammar.specs.declared.command.Command.{Command}
use Rattle.swh_fastgrammar.specs.declared.command.Command.TheVariants.{Blob, Commit, Tag, Reset}
use Rattle.swh_fastgrammar.specs.declared.fault.StreamWhy.TheVariants.{Place as NoPlace}
use Rattle.swh_fastmeaning.specs.Aims.{Aim, AllAims, Missing, no_aims, tip_at, with_mark, with_tip, without_tip, if_commit, commit_at, object_at, blob_at}

-- an object with a commit's tree as a path map, and all that marks and refs lead to
abbrev pub Target : Type 0
Target = Aim PathMap

-- what marks and refs lead to, where a commit's tree is a map from paths
abbrev pub Targets : Type 0
Targets = AllAims PathMap

-- `f` of what was found; or what is missing, where something is
infixl 10 ◌>>=◌
abbrev pub ◌>>=◌ : {X Y : Type 0} → Result X Missing → (X → Result Y Missing) → Result Y Missing
(Ok x) >>= f = f x
(Err missing) >>= f = Err missing

-- a tree, and the contents that were made for it
pub record Changed : Type 0 where
  pub tree : PathMap
  pub contents : List Made

-- the same with another tree, and these contents more
abbrev pub turned : Changed → PathMap → List Made → Changed
turned c tree more = record { tree = tree; contents = c.contents ++ more }

-- the same with a file of this mode and id at the path, and these contents more
abbrev pub put : Changed → List ℕ → ℕ → List ℕ → List Made → Changed
put c path mode id more = turned c (set (components path) (record { mode = mode; id = id }) c.tree) more

-- `c` with this tree, where something stands at the source or under it; else the source is missing, in the line at `at`
abbrev pub if_there : List ℕ → Changed → ℕ → PathMap → Result Changed Missing
if_there source c at tree = elim (held (components source) c.tree) [ [] ↦ Err (record { at = at; why = NoPlace }) | _ ∷ _ ↦ Ok (turned c tree []) ]

-- what commands make: marks and tips, contents, revisions and releases, and the directories of trees
pub record Making : Type 0 where
  pub aims : Targets
  pub objects : List Made
  pub trees : List PathMap

-- the parts of a plain revision
abbrev pub revision_parts : List ℕ → List (List ℕ) → RevisionRest → PlainRevision
revision_parts root parents rest = record { directory = root; parents = parents; rest = rest }

-- the parts of a plain release
abbrev pub release_parts : Name → List ℕ → Option (List ℕ) → List ℕ → PlainRelease
release_parts object tag tagger message = record { object = object; tag = tag; rest = record { tagger = tagger; message = message } }

-- nothing yet
abbrev pub no_making : Making
no_making = record { aims = no_aims; objects = []; trees = [] }

-- what the ref of a commit leads to where it has no line `from`: its tip, where that is a commit
abbrev pub first_parent : {T : Type 0} → AllAims T → List ℕ → Start → Result (Option (Aim T)) Missing
first_parent aims branch Absent = Ok (if_commit (tip_at branch aims))
first_parent aims branch NoTip = Ok None
first_parent aims branch (Of a) = commit_at aims a.at a.it >>= λ aim. Ok (Some aim)

-- the commits that lines name
abbrev pub commits_at : {T : Type 0} → AllAims T → List (At Commitish) → Result (List (Aim T)) Missing
commits_at aims [] = Ok []
commits_at aims (a ∷ more) = commit_at aims a.at a.it >>= λ aim. commits_at aims more >>= λ others. Ok (aim ∷ others)

-- the tree that a commit starts from
abbrev pub starting_tree : Option Target → PathMap
starting_tree None = []
starting_tree (Some aim) = aim.tree

-- the ids of the first parent, where there is one, and of the others
abbrev pub parents_of : {T : Type 0} → Option (Aim T) → List (Aim T) → List (List ℕ)
parents_of None others = map (λ a. a.name.id) others
parents_of (Some aim) others = aim.name.id ∷ map (λ a. a.name.id) others

module _ (id : Kind → List ℕ → List ℕ) where
  -- what a file is set to, in the line at this place: its id, and the content that is made for it
  abbrev pub set_to : {T : Type 0} → AllAims T → ℕ → Dataref → Result (List ℕ × List Made) Missing
  set_to aims at (Mark mark) = blob_at aims at mark >>= λ aim. Ok (aim.name.id, [])
  set_to aims at (Inline bytes) = Ok (id Content bytes, content bytes ∷ [])
  set_to aims at (Hex i) = Ok (i, [])

  -- a change, whose line is at this place
  abbrev pub changed : {T : Type 0} → AllAims T → ℕ → Change → Changed → Result Changed Missing
  changed aims at (Set mode what path) c = set_to aims at what >>= λ s. Ok (put c path mode s.0 s.1)
  changed aims at (Delete path) c = Ok (turned c (delete (components path) c.tree) [])
  changed aims at (Copy source path) c = if_there source c at (copy (components source) (components path) c.tree)
  changed aims at (Move source path) c = if_there source c at (rename (components source) (components path) c.tree)
  changed aims at Clear c = Ok (turned c [] [])

  -- changes, one after another
  abbrev pub all_changed : {T : Type 0} → AllAims T → List (At Change) → Changed → Result Changed Missing
  all_changed aims [] c = Ok c
  all_changed aims (a ∷ more) c = changed aims a.at a.it c >>= λ d. all_changed aims more d

  -- The object is the directory of a folder of the tree, whose root is one.
  pub record IsDirectoryIn (tree : PathMap) (made : Made) : Type 0 where
    pub path : List (List ℕ)
    pub folder : HasFolder tree path
    pub is : made ≡ directory (directory_text (directory_of id (held path tree)))

  -- The object is made.
  abbrev pub Makes : Making → Made → Type 0
  Makes making made = Contains making.objects made ⊎ ((tree : PathMap) × Contains making.trees tree × IsDirectoryIn tree made)

  -- the id of a tree's directory
  abbrev pub root_of : PathMap → List ℕ
  root_of tree = id Directory (directory_text (directory_of id tree))

  -- an object, as a mark leads to it
  abbrev pub aim_of : Made → PathMap → Target
  aim_of made tree = record { name = record { kind = made.kind; id = id made.kind made.body }; tree = tree }

  -- the plain revision of a tree
  abbrev pub revision : PathMap → List (List ℕ) → RevisionRest → Made
  revision tree parents rest = record { kind = Revision; body = plain_revision_text (revision_parts (root_of tree) parents rest) }

  -- the plain release of an object
  abbrev pub release : Target → List ℕ → Option (List ℕ) → List ℕ → Made
  release aim tag tagger message = record { kind = Release; body = plain_release_text (release_parts aim.name tag tagger message) }

  -- what an object makes that gets a mark, where one is given, and nothing more
  abbrev pub marked : Targets → Option ℕ → Made → Making
  marked aims mark made = record { aims = with_mark mark (aim_of made []) aims; objects = made ∷ []; trees = [] }

  -- what a commit of this changed tree makes
  abbrev pub committed : Targets → List ℕ → Option ℕ → Changed → Made → Making
  committed aims branch mark c made = record {
    aims = with_tip branch (aim_of made c.tree) (with_mark mark (aim_of made c.tree) aims);
    objects = c.contents ++ made ∷ [];
    trees = c.tree ∷ [];
  }

  -- the parents and the changed tree of a commit
  abbrev pub commit_parts : Targets → List ℕ → Start → List (At Commitish) → List (At Change) → Result (List (List ℕ) × Changed) Missing
  commit_parts aims branch parent merges changes =
      first_parent aims branch parent >>= λ first. commits_at aims merges >>= λ others.
      all_changed aims changes (record { tree = starting_tree first; contents = [] }) >>= λ c. Ok (parents_of first others, c)

  -- what a tag makes
  abbrev pub tagged : Targets → Option ℕ → List ℕ → Made → Making
  tagged aims mark tag made = record {
    aims = with_tip (codes "refs/tags/" ++ tag) (aim_of made []) (with_mark mark (aim_of made []) aims);
    objects = made ∷ [];
    trees = [];
  }

  -- marks and tips alone
  abbrev pub only : Targets → Making
  only aims = record { aims = aims; objects = []; trees = [] }

  -- a command
  abbrev pub step : Targets → Command → Result Making Missing
  step aims (Blob mark bytes) = Ok (marked aims mark (content bytes))
  step aims (Commit branch mark author committer encoding message parent merges changes) =
      commit_parts aims branch parent merges changes >>= λ p.
      Ok (committed aims branch mark p.1 (revision p.1.tree p.0 (record { author = unwrap_or author committer; committer = committer; encoding = encoding; message = message })))
  step aims (Tag tag mark target tagger message) = object_at aims target.at target.it >>= λ aim. Ok (tagged aims mark tag (release aim tag tagger message))
  step aims (Reset branch Absent) = Ok (only (without_tip branch aims))
  step aims (Reset branch NoTip) = Ok (only (without_tip branch aims))
  step aims (Reset branch (Of a)) = commit_at aims a.at a.it >>= λ aim. Ok (only (with_tip branch aim aims))

  -- one making after another
  abbrev pub then : Making → Making → Making
  then a b = record { aims = b.aims; objects = a.objects ++ b.objects; trees = a.trees ++ b.trees }

  -- commands, one after another
  abbrev pub steps : Making → List Command → Result Making Missing
  steps made [] = Ok made
  steps made (c ∷ more) = step made.aims c >>= λ m. steps (then made m) more
