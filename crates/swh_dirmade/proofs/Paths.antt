-- Paths, cut at their slashes.
use Rattle.std.proofs.Common.{◌≡◌, ◌⊎◌, inl, inr, ℕ, suc, List, [], ◌∷◌, ◌++◌, Contains, refl, sym, ap, subst, arith}
use Rattle.std.proofs.lemmas.List.{append_assoc}
use Rattle.swh_dirmade.specs.Paths.{child}

-- the text has no slash
abbrev pub Plain : List ℕ → Type 0
Plain text = Contains text 47 → ⊥

has_slash : (front rest : List ℕ) → Contains (front ++ 47 ∷ rest) 47
has_slash [] rest = (0, omega arith, refl)
has_slash (c ∷ front) rest = let h = has_slash front rest in let lt = h.1 in (suc h.0, omega (arith, lt), h.2)

pub not_plain : (text front rest : List ℕ) → text ≡ front ++ 47 ∷ rest → Plain text → ⊥
not_plain text front rest e plain = plain (subst (λ (t : List ℕ). Contains t 47) (sym e) (has_slash front rest))

heads : (a b : ℕ) (xs ys : List ℕ) → a ∷ xs ≡ b ∷ ys → a ≡ b
heads a b xs ys e = cc

tails : (a b : ℕ) (xs ys : List ℕ) → a ∷ xs ≡ b ∷ ys → xs ≡ ys
tails a b xs ys e = cc

-- a text that is cut before a name without a slash has one such cut
pub last_cut : (xs ys m n : List ℕ) → Plain m → Plain n → xs ++ 47 ∷ m ≡ ys ++ 47 ∷ n → (xs ≡ ys) × (m ≡ n)
last_cut [] [] m n pm pn e = (refl, tails 47 47 m n e)
last_cut [] (y ∷ ys) m n pm pn e = absurd (not_plain m ys n (tails 47 y m (ys ++ 47 ∷ n) e) pm)
last_cut (x ∷ xs) [] m n pm pn e = absurd (not_plain n xs m (sym (tails x 47 (xs ++ 47 ∷ m) n e)) pn)
last_cut (x ∷ xs) (y ∷ ys) m n pm pn e =
    let h = last_cut xs ys m n pm pn (tails x y (xs ++ 47 ∷ m) (ys ++ 47 ∷ n) e) in
    let first = heads x y (xs ++ 47 ∷ m) (ys ++ 47 ∷ n) e in
    let rest = h.0 in
    (cc, h.1)

-- a name in one folder, and one in another
pub child_injective : (a b m n : List ℕ) → Plain m → Plain n → child a m ≡ child b n → (a ≡ b) × (m ≡ n)
child_injective [] [] m n pm pn e = (refl, e)
child_injective [] (d ∷ b) m n pm pn e = absurd (not_plain m (d ∷ b) n e pm)
child_injective (c ∷ a) [] m n pm pn e = absurd (not_plain n (c ∷ a) m (sym e) pn)
child_injective (c ∷ a) (d ∷ b) m n pm pn e = last_cut (c ∷ a) (d ∷ b) m n pm pn e

pub child_some : (a m : List ℕ) → (m ≡ [] → ⊥) → child a m ≡ [] → ⊥
child_some [] m some e = some e
child_some (c ∷ a) m some e = absurd (cc)

-- what stands below a name of a folder stands below the folder
pub child_deeper : (a m rest : List ℕ) → (m ≡ [] → ⊥) → child a (m ++ 47 ∷ rest) ≡ child a m ++ 47 ∷ rest
child_deeper [] m rest some = refl
child_deeper (c ∷ a) m rest some = sym (append_assoc (c ∷ a) (47 ∷ m) (47 ∷ rest))

pub child_below : (path rest : List ℕ) → (path ≡ [] → ⊥) → child path rest ≡ path ++ 47 ∷ rest
child_below [] rest some = absurd (some refl)
child_below (c ∷ path) rest some = refl

-- a cut before the last one is within what stands before that
cut_before : (xs name p rest : List ℕ) → Plain name → xs ++ 47 ∷ name ≡ p ++ 47 ∷ rest → (xs ≡ p) ⊎ ((more : List ℕ) × (xs ≡ p ++ 47 ∷ more))
cut_before [] name [] rest plain e = inl refl
cut_before [] name (q ∷ p) rest plain e = absurd (not_plain name p rest (tails 47 q name (p ++ 47 ∷ rest) e) plain)
cut_before (x ∷ xs) name [] rest plain e = let first = heads x 47 (xs ++ 47 ∷ name) rest e in inr (xs, ap (λ (c : ℕ). c ∷ xs) first)
cut_before (x ∷ xs) name (q ∷ p) rest plain e =
    let first = heads x q (xs ++ 47 ∷ name) (p ++ 47 ∷ rest) e in
    elim (cut_before xs name p rest plain (tails x q (xs ++ 47 ∷ name) (p ++ 47 ∷ rest) e)) [
      | inl same ↦ inl cc
      | inr h ↦ let deeper = h.1 in inr (h.0, cc)
    ]

-- a cut of the path of a name in a folder is at the folder's end or within its path
pub cut_above : (dir name p rest : List ℕ) → Plain name → child dir name ≡ p ++ 47 ∷ rest → (dir ≡ p) ⊎ ((more : List ℕ) × (dir ≡ p ++ 47 ∷ more))
cut_above [] name p rest plain e = absurd (not_plain name p rest e plain)
cut_above (c ∷ dir) name p rest plain e = cut_before (c ∷ dir) name p rest plain e
