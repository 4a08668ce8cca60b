-- Which of two names comes first shows in as many bytes as both have, or else in what is left.
use Rattle.std.proofs.Common.{◌≡◌, ℕ, ◌≤◌, List, [], ◌∷◌, ◌++◌, length, take, drop, refl, sym, ap, ◌∙◌, arith}
use Rattle.std.proofs.lemmas.List.{append_assoc, length-take-le, take-append-drop}
use Rattle.std.specs.Ordering.{nat_cmp, is_lt, ordering_then}
use Rattle.std.specs.declared.cmp.Ordering.{Ordering}
use Rattle.std.specs.declared.cmp.Ordering.TheVariants.{Less, Equal, Greater}
use Rattle.std.specs.Cmp.Lexicographic.{slice_cmp}
use Rattle.swh_entries.specs.Keys.{is_before}

then_assoc : (o p q : Ordering) → ordering_then o (ordering_then p q) ≡ ordering_then (ordering_then o p) q
then_assoc Less p q = refl
then_assoc Equal p q = refl
then_assoc Greater p q = refl

fronts-first : (x y p q : List ℕ) → length x ≡ length y → slice_cmp nat_cmp (x ++ p) (y ++ q) ≡ ordering_then (slice_cmp nat_cmp x y) (slice_cmp nat_cmp p q)
fronts-first [] [] p q e = refl
fronts-first [] (b ∷ y) p q e = absurd (omega arith)
fronts-first (a ∷ x) [] p q e = absurd (omega arith)
fronts-first (a ∷ x) (b ∷ y) p q e = ap (ordering_then (nat_cmp a b)) (fronts-first x y p q (omega arith)) ∙ then_assoc (nat_cmp a b) (slice_cmp nat_cmp x y) (slice_cmp nat_cmp p q)

whole : (a end : List ℕ) (n : ℕ) → a ++ end ≡ take n a ++ (drop n a ++ end)
whole a end n = ap (λ (s : List ℕ). s ++ end) (sym (take-append-drop n a)) ∙ append_assoc (take n a) (drop n a) end

pub front-decides : (a b a_end b_end : List ℕ) (n : ℕ) (o : Ordering) → n ≤ length a → n ≤ length b → slice_cmp nat_cmp (take n a) (take n b) ≡ o → is_before (a ++ a_end) (b ++ b_end) ≡ is_lt (ordering_then o (slice_cmp nat_cmp (drop n a ++ a_end) (drop n b ++ b_end)))
front-decides a b a_end b_end n o first second fronts =
    ap (λ (s : List ℕ). is_before s (b ++ b_end)) (whole a a_end n)
    ∙ ap (λ (s : List ℕ). is_before (take n a ++ (drop n a ++ a_end)) s) (whole b b_end n)
    ∙ ap is_lt (fronts-first (take n a) (take n b) (drop n a ++ a_end) (drop n b ++ b_end) (length-take-le n a first ∙ sym (length-take-le n b second)))
    ∙ ap (λ (t : Ordering). is_lt (ordering_then t (slice_cmp nat_cmp (drop n a ++ a_end) (drop n b ++ b_end)))) fronts
