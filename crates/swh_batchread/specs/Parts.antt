-- What the steps of reading a batch find.
use Rattle.std.specs.Prelude.{◌≡◌, ◌⊎◌, ℕ, ◌<◌, Bool, true, false, Option, Some, None, List, [], ◌∷◌, ◌++◌, map, Contains}
use Rattle.swh_base.specs.declared.kind.Kind.{Kind}
use Rattle.swh_fastlex.specs.Line.{Held, unread, Takes, IsAtEnd}
use Rattle.swh_model.specs.Meaning.{Made}
use Rattle.swh_batchread.specs.declared.header.Header.{Header}
use Rattle.swh_batchread.specs.Batch.{Given, given_text, header_text, input_limit, IsHeader, IsGiven, KeepsFirst}
use Rattle.swh_batchread.specs.BatchFault.{Reaches}

-- The line, with its LF, is this header's, or no header's.
abbrev pub IsHeaderIn : List ℕ → Option Header → Type 0
IsHeaderIn line (Some h) = IsHeader h × (line ≡ header_text h)
IsHeaderIn line None = (h : Header) → IsHeader h → line ≡ header_text h → ⊥

-- What follows a body has been read: an LF; or there is nothing, or a byte that is no LF or stands past the limit.
abbrev pub EndsBody : Held → Held → List ℕ → List ℕ → Bool → Type 0
EndsBody before now left left_now true = Takes before now left left_now (10 ∷ [])
EndsBody before now left left_now false = IsAtEnd before now left left_now ⊎ ((byte : ℕ) × Takes before now left left_now (byte ∷ []) × ((byte ≡ 10 → ⊥) ⊎ (input_limit < now.place)))

-- An object is added to those that are kept where it was not met; one that was is not added again.
abbrev pub Keeps : List Made → Made → List Made → Type 0
Keeps old m new = (Contains old m × (new ≡ old)) ⊎ ((Contains old m → ⊥) × (new ≡ old ++ m ∷ []))

module _ (id : Kind → List ℕ → List ℕ) where
  -- A good object of this kind and body has been read.
  pub record TakesObject (before now : Held) (left left_now : List ℕ) (m : Made) : Type 0 where
    pub given : Given
    pub is : IsGiven id given
    pub made : given.made ≡ m
    pub taken : Takes before now left left_now (given_text given)

  -- The text has been read up to here, and of its objects these are kept.
  pub record HasRead (text : List ℕ) (now : Held) (left_now : List ℕ) (kept : List Made) : Type 0 where
    pub given : List Given
    pub reaches : Reaches id text given now.place (unread now left_now)
    pub keeps : KeepsFirst [] (map (λ g. g.made) given) kept
