-- A walk over a list that changes each item in turn.
use Rattle.std.proofs.Common.{◌≡◌, ℕ, ◌<◌, ◌≤◌, List, [], ◌∷◌, ◌++◌, map, length, get_or, set, arith, refl, sym, ap, ◌∙◌, append_assoc, append-nil, length-append}
use Rattle.std.proofs.lemmas.List.{map-append, length-map}
use Rattle.std.proofs.Math.Seq.{get_or-append_seam, set-append_seam}

-- the item at a place, what is after it, and the list with another item there
pub turned : {T : Type 0} (items front rest : List T) (i : ℕ) (d y : T) → items ≡ front ++ rest → length front ≡ i → i < length items
    → (behind : List T) × (rest ≡ get_or items i d ∷ behind) × (set items i y ≡ front ++ y ∷ behind)
turned items front [] i d y cut long below = let all = ap length cut ∙ length-append front [] in absurd (omega (arith, all, long, below))
turned {T} items front (z ∷ behind) i d y cut long below =
    let here : get_or items i d ≡ z = ap (λ (l : List T). get_or l i d) cut ∙ ap (λ (n : ℕ). get_or (front ++ z ∷ behind) n d) (sym long) ∙ get_or-append_seam front z behind d in (
      behind,
      ap (λ (w : T). w ∷ behind) (sym here),
      ap (λ (l : List T). set l i y) cut ∙ ap (λ (n : ℕ). set (front ++ z ∷ behind) n y) (sym long) ∙ set-append_seam front z behind y,
    )

-- one more in front of the seam
pub seam_further : {A T : Type 0} (f : A → T) (done : List A) (a : A) (behind : List T) → map f done ++ f a ∷ behind ≡ map f (done ++ a ∷ []) ++ behind
seam_further {A} {T} f done a behind = sym (ap (λ (l : List T). l ++ behind) (map-append f done (a ∷ [])) ∙ append_assoc (map f done) (f a ∷ []) behind)

-- nothing is left at the end
pub walked : {A T : Type 0} (f : A → T) (items rest : List T) (done : List A) (i : ℕ) → items ≡ map f done ++ rest → length done ≡ i → length items ≤ i → (rest ≡ []) × (items ≡ map f done)
walked f items [] done i cut long end = (refl, cut ∙ append-nil (map f done))
walked f items (z ∷ rest) done i cut long end =
    let all = ap length cut ∙ length-append (map f done) (z ∷ rest) in
    let same = length-map done f in
    absurd (omega (arith, all, same, long, end))
