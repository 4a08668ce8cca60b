-- What stands on a sink that fails while several pieces are put.
use Rattle.std.proofs.Common.{◌≡◌, ℕ, zero, suc, ◌+◌, List, [], ◌∷◌, ◌++◌, length, take, drop, flat_map, refl, sym, ap, ◌∙◌, subst, Result, Ok, Err}
use Rattle.std.proofs.lemmas.Grind.{flat_map-append}
use Rattle.std.proofs.lemmas.List.{append_assoc, append-nil, take-append-drop}
use Rattle.std.proofs.Math.Seq.{take-append-add}
use Rattle.swh_outside.specs.Sink.{TakesSome, IsPut}

some_front : (a b : List ℕ) (n : ℕ) → (m : ℕ) × (take m (a ++ b) ≡ take n a)
some_front [] b zero = (0, refl)
some_front [] b (suc n) = (0, refl)
some_front (x ∷ a) b zero = (0, refl)
some_front (x ∷ a) b (suc n) = let f = some_front a b n in (suc f.0, ap (λ (l : List ℕ). x ∷ l) f.1)

-- a few bytes of the first piece
pub some_of_first : (before a b now : List ℕ) → TakesSome before a now → TakesSome before (a ++ b) now
some_of_first before a b now some =
    let f = some_front a b some.count in
    record { count = f.0; is = some.is ∙ ap (λ (l : List ℕ). before ++ l) (sym f.1) }

-- the first piece, and a few bytes of the second
pub some_of_second : (before a b middle now : List ℕ) → middle ≡ before ++ a → TakesSome middle b now → TakesSome before (a ++ b) now
some_of_second before a b middle now first some =
    record {
      count = length a + some.count;
      is = some.is ∙ ap (λ (l : List ℕ). l ++ take some.count b) first ∙ append_assoc before a (take some.count b) ∙ ap (λ (l : List ℕ). before ++ l) (sym (take-append-add a b some.count));
    }

-- both pieces
pub both_pieces : (before a b middle now : List ℕ) → middle ≡ before ++ a → now ≡ middle ++ b → now ≡ before ++ (a ++ b)
both_pieces before a b middle now first second = second ∙ ap (λ (l : List ℕ). l ++ b) first ∙ append_assoc before a b

-- a piece was put, and then another
pub put_both : {T E : Type 0} (before a b middle now : List ℕ) (result : Result T E) → middle ≡ before ++ a → IsPut middle b now result → IsPut before (a ++ b) now result
put_both before a b middle now (Ok x) first put = record { ok = both_pieces before a b middle now first put.ok; err = tt }
put_both before a b middle now (Err e) first put = record { ok = tt; err = some_of_second before a b middle now first put.err }

-- the pieces before one, that one, and those after it
around : (pieces : List (List ℕ)) (i : ℕ) (piece : List ℕ) → take (i + 1) pieces ≡ take i pieces ++ piece ∷ []
    → flat_map (λ p. p) pieces ≡ flat_map (λ p. p) (take i pieces) ++ (piece ++ flat_map (λ p. p) (drop (i + 1) pieces))
around pieces i piece more =
    let joined = λ (ps : List (List ℕ)). flat_map (λ p. p) ps in
    let rest = flat_map (λ p. p) (drop (i + 1) pieces) in
    ap joined (sym (take-append-drop (i + 1) pieces))
    ∙ flat_map-append (λ p. p) (take (i + 1) pieces) (drop (i + 1) pieces)
    ∙ ap (λ (ps : List (List ℕ)). flat_map (λ p. p) ps ++ rest) more
    ∙ ap (λ (l : List ℕ). l ++ rest) (flat_map-append (λ p. p) (take i pieces) (piece ∷ []) ∙ ap (λ (l : List ℕ). flat_map (λ p. p) (take i pieces) ++ l) (append-nil piece))
    ∙ append_assoc (flat_map (λ p. p) (take i pieces)) piece rest

-- all pieces before one, and a few bytes of that one
pub some_of_pieces : (before middle now : List ℕ) (pieces : List (List ℕ)) (i : ℕ) (piece : List ℕ) → take (i + 1) pieces ≡ take i pieces ++ piece ∷ []
    → middle ≡ before ++ flat_map (λ p. p) (take i pieces) → TakesSome middle piece now → TakesSome before (flat_map (λ p. p) pieces) now
some_of_pieces before middle now pieces i piece more first some =
    let rest = flat_map (λ p. p) (drop (i + 1) pieces) in
    subst (λ (l : List ℕ). TakesSome before l now) (sym (around pieces i piece more))
    (some_of_second before (flat_map (λ p. p) (take i pieces)) (piece ++ rest) middle now first (some_of_first middle piece rest now some))
