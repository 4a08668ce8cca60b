-- Batches of objects (git-cat-file(1), batch output): a header, a body and an LF for each object, in any order; and what
-- they mean. `id` gives the id of a kind and a body.
use Rattle.std.specs.Prelude.{◌≡◌, ◌≢◌, ◌⊎◌, ℕ, ◌<◌, ◌≤◌, ◌^◌, List, [], ◌∷◌, ◌++◌, length, map, Contains, decimal}
use Rattle.std.specs.List.{AllByRecursion, flat_map}
use Rattle.hex.specs.Hex.{encode_lower}
use Rattle.swh_base.specs.declared.kind.Kind.{Kind}
use Rattle.swh_base.specs.declared.kind.Kind.TheVariants.{Snapshot}
use Rattle.swh_base.specs.Kind.{word_of}
use Rattle.swh_base.specs.Limits.{body_limit}
use Rattle.swh_base.specs.Manifest.{IsWellFormed}
use Rattle.swh_base.specs.Name.{IsId}
use Rattle.swh_model.specs.Meaning.{Made}
use Rattle.swh_batchread.specs.declared.header.Header.{Header}
use Rattle.swh_batchread.specs.declared.limits.TheConstants.{INPUT_LIMIT}

-- the bytes of a batch, and of a file of refs: 4,294,967,296
abbrev pub input_limit : ℕ
input_limit = INPUT_LIMIT

-- what a header says, without the LF behind it: the id in hexadecimal digits, the kind's word and the size, with a space
-- between them; a size has no leading zero
abbrev pub header_line : Header → List ℕ
header_line h = encode_lower h.id ++ 32 ∷ (word_of h.kind ++ 32 ∷ decimal h.size)

-- the line of a header
abbrev pub header_text : Header → List ℕ
header_text h = header_line h ++ 10 ∷ []

-- The id has twenty bytes, the kind is one that git has, and the size is one that a machine has.
pub record IsHeader (h : Header) : Type 0 where
  pub id : IsId h.id
  pub kind : h.kind ≢ Snapshot
  pub size : h.size < 2 ^ 64

-- an object as it stands in a batch: the id that its header gives, and its kind and its body
pub record Given : Type 0 where
  pub id : List ℕ
  pub made : Made

-- the header of an object
abbrev pub header_of : Given → Header
header_of g = record { id = g.id; kind = g.made.kind; size = length g.made.body }

-- the header, the body and an LF
abbrev pub given_text : Given → List ℕ
given_text g = header_text (header_of g) ++ (g.made.body ++ 10 ∷ [])

-- the texts of the objects, one after another
abbrev pub batch_text : List Given → List ℕ
batch_text given = flat_map given_text given

-- Of the objects that come one after another those are kept, behind the ones before, that were not met: each at its first
-- place, once for its kind and body.
abbrev pub KeepsFirst : List Made → List Made → List Made → Type 0
KeepsFirst before [] all = all ≡ before
KeepsFirst before (m ∷ ms) all = (Contains before m × KeepsFirst before ms all) ⊎ ((Contains before m → ⊥) × KeepsFirst (before ++ m ∷ []) ms all)

module _ (id : Kind → List ℕ → List ℕ) where
  -- The header is one, the body is within the limit and one of its kind, and its id is the one that the header gives.
  pub record IsGiven (g : Given) : Type 0 where
    pub header : IsHeader (header_of g)
    pub short : length g.made.body ≤ body_limit
    pub good : IsWellFormed g.made.kind g.made.body
    pub named : g.id ≡ id g.made.kind g.made.body

  -- Each object is good, and their text is within the limit.
  pub record AreGiven (given : List Given) : Type 0 where
    pub each : AllByRecursion IsGiven given
    pub within : length (batch_text given) ≤ input_limit

  -- The text is a batch, and of its objects these are kept.
  pub record MeansObjects (text : List ℕ) (objects : List Made) : Type 0 where
    pub given : List Given
    pub are : AreGiven given
    pub spelled : text ≡ batch_text given
    pub kept : KeepsFirst [] (map (λ g. g.made) given) objects
