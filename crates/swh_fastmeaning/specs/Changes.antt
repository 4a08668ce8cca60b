-- The changes of a commit as code makes them: its tree among trees, and the contents that are made for it.
use Rattle.std.specs.Prelude.{◌≡◌, ℕ, ◌<◌, ◌≤◌, ◌∷◌, ◌++◌, List, length, Option, Some, None, Result, Ok, Err}
use Rattle.std.specs.List.{AllByRecursion}
use Rattle.swh_base.specs.Limits.{body_limit}
use Rattle.swh_base.specs.declared.entry.Entry.{Entry}
use Rattle.swh_model.specs.Meaning.{Made}
use Rattle.swh_trees.specs.declared.tree.Tree.{Tree}
use Rattle.swh_trees.specs.Grove.{Grove, StandsFor}
use Rattle.swh_forest.specs.PathMap.{PathMap}
pub use Rattle.swh_fastgrammar.specs.Givable.{FitsMode, IsGivableChange}
use Rattle.swh_fastmeaning.specs.Aims.{Missing}
use Rattle.swh_fastmeaning.specs.Commands.{Changed}
use Rattle.swh_dedup.specs.Making.{made}
use Rattle.swh_fastmeaning.specs.declared.feed_fault.FeedFault.{FeedFault}
use Rattle.swh_fastmeaning.specs.declared.feed_fault.FeedFault.TheVariants.{BadStream, Limit, Memory}

-- None of these bodies is above the limit.
abbrev pub AreShort : List Made → Type 0
AreShort objects = AllByRecursion (λ m. length m.body ≤ body_limit) objects

-- The first of these objects, in their order, whose body is above the limit has this many bytes.
pub record IsOver (objects : List Made) (number : ℕ) : Type 0 where
  pub before : List Made
  pub object : Made
  pub after : List Made
  pub cut : objects ≡ before ++ object ∷ after
  pub short : AreShort before
  pub long : number ≡ length object.body
  pub above : body_limit < number

-- These contents were made, or this is the length of the first that is above the limit.
abbrev pub HoldsContents : List Made → List Entry → Option ℕ → Type 0
HoldsContents contents objects None = (made objects ≡ contents) × AreShort contents
HoldsContents contents objects (Some number) = IsOver contents number

-- The tree stands for what this makes, and its contents are held.
pub record IsChangedTo (found : Result Changed Missing) (grove : Grove) (tree : Tree) (objects : List Entry) (over : Option ℕ) : Type 0 where
  pub changed : Changed
  pub is : found ≡ Ok changed
  pub stands : StandsFor grove tree changed.tree
  pub holds : HoldsContents changed.contents objects over

-- Why a change is refused: the fault is what is missing. Of want of memory nothing is said.
abbrev pub ExplainsChange : {X : Type 0} → Result X Missing → FeedFault → Type 0
ExplainsChange found (BadStream at why) = found ≡ Err (record { at = at; why = why })
ExplainsChange found (Limit which number) = ⊥
ExplainsChange found Memory = Unit {0}

-- a tree and contents
abbrev pub changed_of : PathMap → List Made → Changed
changed_of tree contents = record { tree = tree; contents = contents }

-- This is the id, and the contents with what is made for it are held.
pub record IsSetTo (found : Result (List ℕ × List Made) Missing) (id : List ℕ) (contents : List Made) (objects : List Entry) (over : Option ℕ) : Type 0 where
  pub more : List Made
  pub is : found ≡ Ok (id, more)
  pub holds : HoldsContents (contents ++ more) objects over
