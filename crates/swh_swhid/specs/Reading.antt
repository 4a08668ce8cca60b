-- What the readers of parts answer.
use Rattle.std.specs.Prelude.{◌≡◌, ℕ, ◌≤◌, ◌==◌, ◌&&◌, not, Bool, true, if◌then◌else◌, List, [], ◌∷◌, ◌++◌, length, take, drop, Result, Ok, Err}
use Rattle.swh_swhid.specs.declared.swhid.Key.{Key}
use Rattle.swh_swhid.specs.declared.swhid.Swhid.{Swhid}
use Rattle.swh_swhid.specs.declared.fault.SwhidFault.{SwhidFault}
use Rattle.swh_swhid.specs.declared.fault.SwhidFault.TheVariants.{Memory, BadText}
use Rattle.swh_swhid.specs.Front.{BreaksAt, common}
use Rattle.swh_swhid.specs.Qualifier.{key_word, is_free, AddAll, pieces_text, IsSwhid}

-- how far a piece goes along with a key's word, where the key is free
abbrev pub along_key : Swhid → Key → List ℕ → ℕ
along_key s key piece = if is_free s key then common (key_word key) piece else 0

-- The fault is the place where the text breaks off, or memory ran out.
abbrev pub ExplainsSwhid : (List ℕ → Type 0) → List ℕ → SwhidFault → Type 0
ExplainsSwhid L text Memory = Unit {0}
ExplainsSwhid L text (BadText at) = BreaksAt L text at

-- no `;`
abbrev pub is_whole : List ℕ → Bool
is_whole [] = true
is_whole (c ∷ text) = not (c == 59) && is_whole text

-- nothing, or a `;` and what follows it
abbrev pub IsPieceEnd : List ℕ → Type 0
IsPieceEnd [] = Unit {0}
IsPieceEnd (c ∷ text) = c ≡ 59

-- Pieces, each after a `;`, that take the first value to the second.
pub record Tail (s : Swhid) (text : List ℕ) (t : Swhid) : Type 0 where
  pub pieces : List (List ℕ)
  pub spelled : text ≡ pieces_text pieces
  pub adds : AddAll pieces s t

-- The text up to `at` is read as the value `s`: with any pieces behind it, it is a SWHID of just the values to which
-- these pieces take `s`.
pub record IsPlace (text : List ℕ) (at : ℕ) (s : Swhid) : Type 0 where
  pub within : at ≤ length text
  pub closed : IsPieceEnd (drop at text)
  pub to : (y : List ℕ) (t : Swhid) → IsPieceEnd y → Tail s y t → IsSwhid (take at text ++ y) t
  pub from : (y : List ℕ) (t : Swhid) → IsPieceEnd y → IsSwhid (take at text ++ y) t → Tail s y t

-- The answer is this value, or memory ran out.
abbrev pub GivesSwhid : Result Swhid SwhidFault → Swhid → Type 0
GivesSwhid (Ok found) s = found ≡ s
GivesSwhid (Err Memory) s = Unit {0}
GivesSwhid (Err (BadText at)) s = ⊥
