-- A core identifier is written in three parts.
use Rattle.std.proofs.Common.{◌≡◌, ℕ, List, [], ◌++◌, length, take, drop, sym, ap, ◌∙◌, subst, arith, append_assoc, length-append, length-drop}
use Rattle.std.proofs.lemmas.List.{take-append-drop, append-nil, length-take-le}
use Rattle.std.proofs.Math.Seq.{take-append_seam, drop-append_seam}
use borrow.Rule.Slice.PartMut.{put_mid}

-- a part that is written over another of its length
put_at : (f m p n : List ℕ) (a k : ℕ) → length f ≡ a → length m ≡ k → put_mid a k (f ++ (m ++ p)) n ≡ f ++ (n ++ p)
put_at f m p n a k ef em =
    let front : take a (f ++ (m ++ p)) ≡ f = subst (λ (i : ℕ). take i (f ++ (m ++ p)) ≡ f) ef (take-append_seam f (m ++ p)) in
    let behind : drop a (f ++ (m ++ p)) ≡ m ++ p = subst (λ (i : ℕ). drop i (f ++ (m ++ p)) ≡ m ++ p) ef (drop-append_seam f (m ++ p)) in
    let after : drop k (m ++ p) ≡ p = subst (λ (i : ℕ). drop i (m ++ p) ≡ p) em (drop-append_seam m p) in
    ap (λ (t : List ℕ). t ++ (n ++ drop k (drop a (f ++ (m ++ p))))) front ∙ ap (λ (t : List ℕ). f ++ (n ++ drop k t)) behind ∙ ap (λ (t : List ℕ). f ++ (n ++ t)) after

-- six bytes, four and forty
pub three_parts : (a p b c : List ℕ) → length a ≡ 6 → length b ≡ 4 → length p ≡ 44 → put_mid 10 40 (put_mid 6 4 (a ++ p) b) c ≡ a ++ (b ++ c)
three_parts a p b c ea eb ep =
    let four : length (take 4 p) ≡ 4 = length-take-le 4 p (omega (arith, ep)) in
    let forty : length (drop 4 p) ≡ 40 = length-drop 4 p ∙ omega (arith, ep) in
    let split : a ++ p ≡ a ++ (take 4 p ++ drop 4 p) = ap (λ (t : List ℕ). a ++ t) (sym (take-append-drop 4 p)) in
    let first : put_mid 6 4 (a ++ p) b ≡ a ++ (b ++ drop 4 p) = ap (λ (t : List ℕ). put_mid 6 4 t b) split ∙ put_at a (take 4 p) (drop 4 p) b 6 4 ea four in
    let joined : a ++ (b ++ drop 4 p) ≡ (a ++ b) ++ (drop 4 p ++ []) = sym (append_assoc a b (drop 4 p)) ∙ ap (λ (t : List ℕ). (a ++ b) ++ t) (sym (append-nil (drop 4 p))) in
    ap (λ (t : List ℕ). put_mid 10 40 t c) (first ∙ joined)
    ∙ put_at (a ++ b) (drop 4 p) [] c 10 40 (length-append a b ∙ omega (arith, ea, eb)) forty
    ∙ ap (λ (t : List ℕ). (a ++ b) ++ t) (append-nil c)
    ∙ append_assoc a b c
