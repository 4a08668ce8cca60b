-- Paths of the read API: what each asks for, and how it is spelled.
use Rattle.std.specs.Prelude.{◌≡◌, ℕ, ◌==◌, List, [], ◌∷◌, ◌++◌, Contains, codes}
use Rattle.std.specs.List.{before_first}
use Rattle.swh_replies.specs.declared.asked.Asked.{Asked}
use Rattle.swh_replies.specs.declared.asked.Asked.TheVariants as asked

-- what a path asks for, with the texts that stand in it as they are there
pub data Shape : Type 0 where
  Known : Shape
  Visits : List ℕ → Shape
  Origin : List ℕ → Shape
  Revision : List ℕ → Shape
  Log : List ℕ → Shape
  Release : List ℕ → Shape
  Directory : List ℕ → Shape
  DirectoryEntry : List ℕ → List ℕ → Shape
  Snapshot : List ℕ → Shape
  Content : List ℕ → Shape
  Resolve : List ℕ → Shape
  Raw : List ℕ → Shape
  Cook : List ℕ → Shape
  Load : List ℕ → Shape

-- the first word of the path
abbrev pub word_of : Shape → List ℕ
word_of Known = codes "known"
word_of (Visits url) = codes "origin"
word_of (Origin url) = codes "origin"
word_of (Revision id) = codes "revision"
word_of (Log id) = codes "revision"
word_of (Release id) = codes "release"
word_of (Directory id) = codes "directory"
word_of (DirectoryEntry id path) = codes "directory"
word_of (Snapshot id) = codes "snapshot"
word_of (Content id) = codes "content"
word_of (Resolve swhid) = codes "resolve"
word_of (Raw core) = codes "raw"
word_of (Cook core) = codes "cook"
word_of (Load url) = codes "load"

-- what stands behind the word and its slash
abbrev pub tail_of : Shape → List ℕ
tail_of Known = []
tail_of (Visits url) = url ++ codes "/visits/"
tail_of (Origin url) = url ++ codes "/get/"
tail_of (Revision id) = id ++ codes "/"
tail_of (Log id) = id ++ codes "/log/"
tail_of (Release id) = id ++ codes "/"
tail_of (Directory id) = id ++ codes "/"
tail_of (DirectoryEntry id path) = id ++ 47 ∷ (path ++ codes "/")
tail_of (Snapshot id) = id ++ codes "/"
tail_of (Content id) = codes "sha1_git:" ++ (id ++ codes "/")
tail_of (Resolve swhid) = swhid ++ codes "/"
tail_of (Raw core) = core ++ codes "/"
tail_of (Cook core) = core ++ codes "/"
tail_of (Load url) = codes "fast/" ++ (url ++ codes "/")

-- There is no slash in it.
abbrev pub IsOnePart : List ℕ → Type 0
IsOnePart text = Contains text 47 → ⊥

-- Ids hold no slash. A URL, a path and a SWHID may.
abbrev pub IsShape : Shape → Type 0
IsShape Known = Unit {0}
IsShape (Visits url) = Unit {0}
IsShape (Origin url) = Unit {0}
IsShape (Revision id) = IsOnePart id
IsShape (Log id) = IsOnePart id
IsShape (Release id) = IsOnePart id
IsShape (Directory id) = IsOnePart id
IsShape (DirectoryEntry id path) = IsOnePart id
IsShape (Snapshot id) = IsOnePart id
IsShape (Content id) = IsOnePart id
IsShape (Resolve swhid) = Unit {0}
IsShape (Raw core) = IsOnePart core
IsShape (Cook core) = IsOnePart core
IsShape (Load url) = Unit {0}

-- A word, and what stands behind it and a slash, are those of the shape.
pub record HasParts (word tail : List ℕ) (shape : Shape) : Type 0 where
  pub word_is : word ≡ word_of shape
  pub tail_is : tail ≡ tail_of shape
  pub good : IsShape shape

-- The path, up to a `?`, is one of this shape.
pub record Spells (path : List ℕ) (shape : Shape) : Type 0 where
  pub text : before_first (λ c. c == 63) path ≡ codes "/api/1/" ++ (word_of shape ++ 47 ∷ tail_of shape)
  pub good : IsShape shape

-- the shape of what was read in a path
abbrev pub shape_of : Asked → Shape
shape_of asked.Known = Known
shape_of (asked.Visits url) = Visits url.now
shape_of (asked.Origin url) = Origin url.now
shape_of (asked.Revision id) = Revision id.now
shape_of (asked.Log id) = Log id.now
shape_of (asked.Release id) = Release id.now
shape_of (asked.Directory id) = Directory id.now
shape_of (asked.DirectoryEntry id path) = DirectoryEntry id.now path.now
shape_of (asked.Snapshot id) = Snapshot id.now
shape_of (asked.Content id) = Content id.now
shape_of (asked.Resolve swhid) = Resolve swhid.now
shape_of (asked.Raw core) = Raw core.now
shape_of (asked.Cook core) = Cook core.now
shape_of (asked.Load url) = Load url.now
