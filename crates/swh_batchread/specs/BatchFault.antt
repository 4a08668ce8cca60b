-- The first fault of a batch, or the first limit that it passes. An object is judged in this order: its header, its body
-- with the LF behind it, the grammar of its kind, its id. Limits stand before the grammar for the same bytes.
use Rattle.std.specs.Prelude.{◌≡◌, ◌≢◌, ◌⊎◌, ℕ, ◌+◌, ◌<◌, ◌≤◌, List, [], ◌∷◌, ◌++◌, length, take, Contains}
use Rattle.swh_base.specs.declared.kind.Kind.{Kind}
use Rattle.swh_base.specs.declared.visit.Which.{Which}
use Rattle.swh_base.specs.declared.visit.Which.TheVariants.{Body, Stream}
use Rattle.swh_base.specs.Limits.{body_limit, line_limit}
use Rattle.swh_base.specs.Manifest.{IsWellFormed}
use Rattle.swh_outside.specs.Views.{Sources}
use Rattle.swh_fastlex.specs.Line.{IsLine}
use Rattle.swh_model.specs.Meaning.{Made}
use Rattle.swh_batchread.specs.declared.fault.BatchFault.{BatchFault}
use Rattle.swh_batchread.specs.declared.fault.BatchFault.TheVariants.{BadBatch, WrongName, BadRefs, NoObject, Limit, ReadFault, Memory}
use Rattle.swh_batchread.specs.declared.header.Header.{Header}
use Rattle.swh_batchread.specs.Failing.{Fails}
use Rattle.swh_batchread.specs.Batch.{Given, IsHeader, header_text, batch_text, input_limit, AreGiven, MeansObjects}

-- The first bytes of a text are this line: up to and with the first LF, or all of them where there is none; and no more than
-- a line may have.
pub record BeginsWithLine (text line : List ℕ) : Type 0 where
  pub rest : List ℕ
  pub cut : text ≡ line ++ rest
  pub short : length line ≤ line_limit
  pub ends : IsLine line ⊎ ((Contains line 10 → ⊥) × ((rest ≡ []) ⊎ (length line ≡ line_limit)))

-- A limit of the whole input is passed: by one byte, since no more is looked at.
abbrev pub IsPastInput : Which → ℕ → Type 0
IsPastInput which number = (which ≡ Stream) × (number ≡ input_limit + 1)

-- The text begins, within the limit of a batch that this stands in at `at`, with this header, and then comes the rest.
pub record BeginsWithHeader (at : ℕ) (text : List ℕ) (h : Header) (rest : List ℕ) : Type 0 where
  pub is : IsHeader h
  pub cut : text ≡ header_text h ++ rest
  pub within : at + length (header_text h) ≤ input_limit

-- Something stands here, within the limit, and no header.
pub record HasNoHeader (at : ℕ) (text : List ℕ) : Type 0 where
  pub line : List ℕ
  pub first : BeginsWithLine text line
  pub some : text ≢ []
  pub within : at + length line ≤ input_limit
  pub none : (h : Header) (rest : List ℕ) → IsHeader h → text ≡ header_text h ++ rest → ⊥

-- The first line here ends past the limit.
pub record LinePasses (at : ℕ) (text : List ℕ) : Type 0 where
  pub line : List ℕ
  pub first : BeginsWithLine text line
  pub above : input_limit < at + length line

-- the bytes of a body of this size, and of the LF behind it: as many as there are
abbrev pub body_front : ℕ → List ℕ → List ℕ
body_front size text = take (size + 1) text

-- The text begins, within the limits, with a body of this size and an LF, and then comes the rest.
pub record BeginsWithBody (at : ℕ) (text : List ℕ) (size : ℕ) (body rest : List ℕ) : Type 0 where
  pub short : size ≤ body_limit
  pub length_is : length body ≡ size
  pub cut : text ≡ body ++ 10 ∷ rest
  pub within : at + (size + 1) ≤ input_limit

-- Within the limits no body of this size, with an LF behind it, stands here.
pub record HasNoBody (at : ℕ) (text : List ℕ) (size : ℕ) : Type 0 where
  pub short : size ≤ body_limit
  pub within : at + length (body_front size text) ≤ input_limit
  pub none : (body rest : List ℕ) → length body ≡ size → text ≡ body ++ 10 ∷ rest → ⊥

-- A body of this size ends past the limit of a batch, with the LF behind it.
pub record BodyPasses (at : ℕ) (text : List ℕ) (size : ℕ) : Type 0 where
  pub short : size ≤ body_limit
  pub above : input_limit < at + length (body_front size text)

-- What breaks where a header is to begin.
abbrev pub HeaderBreaks : ℕ → List ℕ → BatchFault → Type 0
HeaderBreaks at text (BadBatch place) = (place ≡ at) × HasNoHeader at text
HeaderBreaks at text (Limit which number) = IsPastInput which number × LinePasses at text
HeaderBreaks at text (WrongName given got) = ⊥
HeaderBreaks at text (BadRefs line) = ⊥
HeaderBreaks at text (NoObject id) = ⊥
HeaderBreaks at text ReadFault = ⊥
HeaderBreaks at text Memory = ⊥

-- What breaks behind a header of this size that begins at `start`.
abbrev pub BodyBreaks : ℕ → ℕ → List ℕ → ℕ → BatchFault → Type 0
BodyBreaks start at text size (BadBatch place) = (place ≡ start) × HasNoBody at text size
BodyBreaks start at text size (Limit which number) = ((which ≡ Body) × (number ≡ size) × (body_limit < size)) ⊎ (IsPastInput which number × BodyPasses at text size)
BodyBreaks start at text size (WrongName given got) = ⊥
BodyBreaks start at text size (BadRefs line) = ⊥
BodyBreaks start at text size (NoObject id) = ⊥
BodyBreaks start at text size ReadFault = ⊥
BodyBreaks start at text size Memory = ⊥

module _ (id : Kind → List ℕ → List ℕ) where
  -- The id that is given is another one than that of the body, which is one of its kind.
  pub record HasOtherName (h : Header) (body given got : List ℕ) : Type 0 where
    pub good : IsWellFormed h.kind body
    pub given_is : given ≡ h.id
    pub got_is : got ≡ id h.kind body
    pub differ : given ≢ got

  -- What is wrong with the object of this header and this body.
  abbrev pub ObjectBreaks : ℕ → Header → List ℕ → BatchFault → Type 0
  ObjectBreaks start h body (BadBatch place) = (place ≡ start) × (IsWellFormed h.kind body → ⊥)
  ObjectBreaks start h body (WrongName given got) = HasOtherName h body given got
  ObjectBreaks start h body (Limit which number) = ⊥
  ObjectBreaks start h body (BadRefs line) = ⊥
  ObjectBreaks start h body (NoObject id) = ⊥
  ObjectBreaks start h body ReadFault = ⊥
  ObjectBreaks start h body Memory = ⊥

  -- What breaks behind the header: the body, or with a whole body the object.
  abbrev pub BreaksBehind : ℕ → Header → ℕ → List ℕ → BatchFault → Type 0
  BreaksBehind start h at text fault = BodyBreaks start at text h.size fault ⊎ ((body : List ℕ) × (rest : List ℕ) × BeginsWithBody at text h.size body rest × ObjectBreaks start h body fault)

  -- What breaks here: the header, or with a whole header what is behind it.
  abbrev pub BreaksHere : ℕ → List ℕ → BatchFault → Type 0
  BreaksHere at text fault = HeaderBreaks at text fault ⊎ ((h : Header) × (rest : List ℕ) × BeginsWithHeader at text h rest × BreaksBehind at h (at + length (header_text h)) rest fault)

  -- The text begins with these good objects, and what follows them begins at `at`.
  pub record Reaches (text : List ℕ) (given : List Given) (at : ℕ) (rest : List ℕ) : Type 0 where
    pub are : AreGiven id given
    pub cut : text ≡ batch_text given ++ rest
    pub here : at ≡ length (batch_text given)

  -- The first thing that breaks stands behind whole good objects.
  pub record BreaksBatch (text : List ℕ) (fault : BatchFault) : Type 0 where
    pub given : List Given
    pub at : ℕ
    pub rest : List ℕ
    pub reaches : Reaches text given at rest
    pub breaks : BreaksHere at rest fault

-- Some batch may break so, whatever its source tells.
abbrev pub MayBreakBatch : BatchFault → Type 0
MayBreakBatch (BadBatch at) = at ≤ input_limit
MayBreakBatch (WrongName given got) = given ≢ got
MayBreakBatch (Limit which number) = ((which ≡ Body) × (body_limit < number)) ⊎ IsPastInput which number
MayBreakBatch (BadRefs line) = ⊥
MayBreakBatch (NoObject id) = ⊥
MayBreakBatch ReadFault = ⊥
MayBreakBatch Memory = ⊥

module _ {S : Type 0} (id : Kind → List ℕ → List ℕ) (sources : Sources S) (s : S) where
  -- Where the source tells what is left of it, those bytes mean these objects.
  abbrev pub MeansLeft : List Made → Type 0
  MeansLeft objects = sources.tells → MeansObjects id (sources.left s) objects

  -- Why a source, `s` before the reading and `now` after it, gives no objects: what was left of it breaks so, or it failed and
  -- its count of faults rose, or memory ran out.
  abbrev pub ExplainsBatch : S → BatchFault → Type 0
  ExplainsBatch now fault = Fails sources.tells MayBreakBatch (BreaksBatch id (sources.left s)) (sources.faults s) (sources.faults now) fault
