-- How far a text goes along with the texts of a language.
use Rattle.std.specs.Prelude.{◌≡◌, ℕ, ◌==◌, if◌then◌else◌, suc, Bool, true, List, [], ◌∷◌, ◌++◌, length}

-- Some text of the language begins with the front, none begins with the front and the next byte, and the
-- text itself is none of the language.
pub record BreaksAt (L : List ℕ → Type 0) (text : List ℕ) (at : ℕ) : Type 0 where
  pub front : List ℕ
  pub rest : List ℕ
  pub cut : text ≡ front ++ rest
  pub here : at ≡ length front
  pub more : List ℕ
  pub goes_on : L (front ++ more)
  pub stops : (b : ℕ) (tail x : List ℕ) → rest ≡ b ∷ tail → L (front ++ b ∷ x) → ⊥
  pub refused : L text → ⊥

-- how many bytes at the front of the two are the same
abbrev pub common : List ℕ → List ℕ → ℕ
common [] text = 0
common (c ∷ word) [] = 0
common (c ∷ word) (d ∷ text) = if c == d then suc (common word text) else 0

-- One of the words that may stand here, and then a text of its language.
pub record Chosen (K : Type 0) (word : K → List ℕ) (may : K → Bool) (L : K → List ℕ → Type 0) (text : List ℕ) : Type 0 where
  pub key : K
  pub may_stand : may key ≡ true
  pub rest : List ℕ
  pub spelled : text ≡ word key ++ rest
  pub follows : L key rest
