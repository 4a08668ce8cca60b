-- Texts that are those of items, one after another, where no item's text begins another's.
use Rattle.std.proofs.Common.{◌≡◌, ℕ, List, [], ◌∷◌, ◌++◌, refl, sym, ap, ◌∙◌, subst, append_assoc}
use Rattle.std.specs.List.{AllByRecursion, flat_map}
use Rattle.std.proofs.lemmas.List.{append-nil}

module _ {X : Type 0} (text_of : X → List ℕ) (IsItem : X → Type 0) (one_item : (a b : X) (x y : List ℕ) → IsItem a → IsItem b → text_of a ++ x ≡ text_of b ++ y → (a ≡ b) × (x ≡ y)) where
  module _ (item-not_nil : (a : X) (x : List ℕ) → text_of a ++ x ≡ [] → ⊥) where
    -- A text of items that goes on from the text of others has these in front.
    pub items_on : (xs ys : List X) (rest : List ℕ) → AllByRecursion IsItem xs → AllByRecursion IsItem ys → flat_map text_of xs ≡ flat_map text_of ys ++ rest
        → (more : List X) × (xs ≡ ys ++ more) × (rest ≡ flat_map text_of more)
    items_on xs [] rest hx hy e = (xs, refl, sym e)
    items_on [] (y ∷ ys) rest hx hy e = absurd (item-not_nil y (flat_map text_of ys ++ rest) (sym (append_assoc (text_of y) (flat_map text_of ys) rest) ∙ sym e))
    items_on (x ∷ xs) (y ∷ ys) rest hx hy e =
        let one = one_item x y (flat_map text_of xs) (flat_map text_of ys ++ rest) hx.0 hy.0 (e ∙ append_assoc (text_of y) (flat_map text_of ys) rest) in
        let others = items_on xs ys rest hx.1 hy.1 one.1 in
        let first = one.0 in
        let after = others.1 in
        (others.0, cc, others.2)

    -- a text is that of one list of items at most
    pub one_items : (xs ys : List X) → AllByRecursion IsItem xs → AllByRecursion IsItem ys → flat_map text_of xs ≡ flat_map text_of ys → xs ≡ ys
    one_items xs ys hx hy e =
        let on = items_on xs ys [] hx hy (e ∙ sym (append-nil (flat_map text_of ys))) in
        elim on.0 as (λ more. xs ≡ ys ++ more → [] ≡ flat_map text_of more → xs ≡ ys) [
          | [] ↦ λ is _. is ∙ append-nil ys
          | m ∷ more ↦ λ _ none. absurd (item-not_nil m (flat_map text_of more) (sym none))
        ] on.1 on.2

  module _ (AreItems : List X → Type 0) (MayFollow : List X → X → Type 0) (next : (before : List X) (x : X) (more : List X) → AreItems (before ++ x ∷ more) → MayFollow before x) (is_item : (before : List X) (x : X) → MayFollow before x → IsItem x) where
    -- No item that may follow these begins the text.
    abbrev pub NoneFollows : List X → List ℕ → Type 0
    NoneFollows before text = (x : X) (rest : List ℕ) → text ≡ text_of x ++ rest → MayFollow before x → ⊥

    -- Two fronts of one text that go as far as they can are one.
    pub same_front : (before xs ys : List X) (r q : List ℕ) → AreItems (before ++ xs) → AreItems (before ++ ys) → flat_map text_of xs ++ r ≡ flat_map text_of ys ++ q
        → NoneFollows (before ++ xs) r → NoneFollows (before ++ ys) q → (xs ≡ ys) × (r ≡ q)
    same_front before [] [] r q a b e n m = (refl, e)
    same_front before [] (y ∷ ys) r q a b e n m =
        absurd (n y (flat_map text_of ys ++ q) (e ∙ append_assoc (text_of y) (flat_map text_of ys) q) (subst (λ (zs : List X). MayFollow zs y) (sym (append-nil before)) (next before y ys b)))
    same_front before (x ∷ xs) [] r q a b e n m =
        absurd (m x (flat_map text_of xs ++ r) (sym e ∙ append_assoc (text_of x) (flat_map text_of xs) r) (subst (λ (zs : List X). MayFollow zs x) (sym (append-nil before)) (next before x xs a)))
    same_front before (x ∷ xs) (y ∷ ys) r q a b e n m =
        let one = one_item x y (flat_map text_of xs ++ r) (flat_map text_of ys ++ q) (is_item before x (next before x xs a)) (is_item before y (next before y ys b)) (sym (append_assoc (text_of x) (flat_map text_of xs) r) ∙ e ∙ append_assoc (text_of y) (flat_map text_of ys) q) in
        let first = one.0 in
        let left : before ++ x ∷ xs ≡ (before ++ x ∷ []) ++ xs = sym (append_assoc before (x ∷ []) xs) in
        let right : before ++ y ∷ ys ≡ (before ++ x ∷ []) ++ ys = ap (λ (z : X). before ++ z ∷ ys) (sym first) ∙ sym (append_assoc before (x ∷ []) ys) in
        let others = same_front (before ++ x ∷ []) xs ys r q (subst AreItems left a) (subst AreItems right b) one.1 (subst (λ (zs : List X). NoneFollows zs r) left n) (subst (λ (zs : List X). NoneFollows zs q) right m) in
        let after = others.0 in
        (cc, others.1)
