-- A directory has one size.
use Rattle.std.proofs.Common.{◌≡◌, ◌≢◌, ◌⊎◌, inl, inr, ℕ, suc, ◌+◌, List, [], ◌∷◌, ◌++◌, Contains, refl, sym, ap, ◌∙◌, subst, arith}
use Rattle.std.specs.List.{AllPairs, sum_by}
use Rattle.std.proofs.lemmas.List.Sorted.{IsPermutation-middle, sum_by-IsPermutation}
use Rattle.std.proofs.lemmas.List.Sums.{sum_by-cons}
use Rattle.swh_dedup.proofs.Elements.{first_or_later, first_is, later_is, none_is}
use Rattle.swh_dirmade.specs.Directories.{Row, row_size, HasSize}
use Rattle.swh_dirmade.specs.Paths.{child}
use Rattle.swh_dirmade.specs.Spots.{Places}

-- Each is another than those behind it.
abbrev AreOther : List Row → Type 0
AreOther [] = Unit {0}
AreOther (r ∷ rows) = (Contains rows r → ⊥) × AreOther rows

others_of : (rows : List Row) → AllPairs (λ a b. a.0 ≢ b.0) rows → AreOther rows
others_of [] once = tt
others_of (r ∷ rows) once = (λ c. let lt = c.1 in once 0 (suc c.0) r (omega arith) (omega (arith, lt)) (ap (λ (x : Row). x.0) (sym c.2)), others_of rows (λ i j d lt within. once (suc i) (suc j) d (omega (arith, lt)) (omega (arith, within))))

-- the rows before an element and those behind it
cut_of : (rows : List Row) (r : Row) → Contains rows r → (before : List Row) × (rest : List Row) × (rows ≡ before ++ r ∷ rest)
cut_of [] r c = absurd (none_is r c)
cut_of (s ∷ rows) r c = elim (first_or_later s rows r c) [
  | inl e ↦ ([], rows, ap (λ (x : Row). x ∷ rows) e)
  | inr d ↦ let h = cut_of rows r d in (s ∷ h.0, h.1, ap (λ (xs : List Row). s ∷ xs) h.2)
]

in_middle_or : (before rest : List Row) (r x : Row) → Contains (before ++ r ∷ rest) x → (r ≡ x) ⊎ Contains (before ++ rest) x
in_middle_or [] rest r x c = first_or_later r rest x c
in_middle_or (b ∷ before) rest r x c = elim (first_or_later b (before ++ r ∷ rest) x c) [
  | inl e ↦ inr (subst (Contains (b ∷ (before ++ rest))) e (first_is b (before ++ rest)))
  | inr d ↦ elim (in_middle_or before rest r x d) [
    | inl e ↦ inl e
    | inr h ↦ inr (later_is b (before ++ rest) x h)
  ]
]

in_wider : (before rest : List Row) (r x : Row) → Contains (before ++ rest) x → Contains (before ++ r ∷ rest) x
in_wider [] rest r x c = later_is r rest x c
in_wider (b ∷ before) rest r x c = elim (first_or_later b (before ++ rest) x c) [
  | inl e ↦ subst (Contains (b ∷ (before ++ r ∷ rest))) e (first_is b (before ++ r ∷ rest))
  | inr d ↦ later_is b (before ++ r ∷ rest) x (in_wider before rest r x d)
]

is_middle : (before rest : List Row) (r : Row) → Contains (before ++ r ∷ rest) r
is_middle [] rest r = first_is r rest
is_middle (b ∷ before) rest r = later_is b (before ++ r ∷ rest) r (is_middle before rest r)

without : (before rest : List Row) (r : Row) → AreOther (before ++ r ∷ rest) → AreOther (before ++ rest) × (Contains (before ++ rest) r → ⊥)
without [] rest r h = (h.1, h.0)
without (b ∷ before) rest r h =
    let rec = without before rest r h.1 in
    ((λ c. h.0 (in_wider before rest r b c), rec.0), λ c. by_place c rec.1 (first_or_later b (before ++ rest) r c))
  where
    by_place : Contains (b ∷ (before ++ rest)) r → (Contains (before ++ rest) r → ⊥) → (b ≡ r) ⊎ Contains (before ++ rest) r → ⊥
    by_place c none (inl e) = h.0 (subst (Contains (before ++ r ∷ rest)) (sym e) (is_middle before rest r))
    by_place c none (inr d) = none d

-- rows of which none stands twice have one sum, in whatever order they come
same_sum : (rows others : List Row) → AreOther rows → AreOther others → ((r : Row) → Contains rows r → Contains others r) → ((r : Row) → Contains others r → Contains rows r) → sum_by row_size rows ≡ sum_by row_size others
same_sum [] [] a b to from = refl
same_sum [] (o ∷ others) a b to from = absurd (none_is o (from o (first_is o others)))
same_sum (r ∷ rows) others a b to from =
    let cut = cut_of others r (to r (first_is r rows)) in
    let left = cut.0 ++ cut.1 in
    let apart = without cut.0 cut.1 r (subst AreOther cut.2 b) in
    let there : (x : Row) → Contains rows x → Contains left x = λ x c. elim (in_middle_or cut.0 cut.1 r x (subst (λ (xs : List Row). Contains xs x) cut.2 (to x (later_is r rows x c)))) [
      | inl e ↦ absurd (a.0 (subst (Contains rows) (sym e) c))
      | inr d ↦ d
    ] in
    let back : (x : Row) → Contains left x → Contains rows x = λ x c. elim (first_or_later r rows x (from x (subst (λ (xs : List Row). Contains xs x) (sym cut.2) (in_wider cut.0 cut.1 r x c)))) [
      | inl e ↦ absurd (apart.1 (subst (Contains left) (sym e) c))
      | inr d ↦ d
    ] in
    let rest : sum_by row_size rows ≡ sum_by row_size left = same_sum rows left a.1 apart.0 there back in
    let moved : sum_by row_size (r ∷ left) ≡ sum_by row_size (cut.0 ++ r ∷ cut.1) = sum_by-IsPermutation row_size (cut.0 ++ r ∷ cut.1) (r ∷ left) (IsPermutation-middle cut.0 r cut.1) in
    sum_by-cons row_size r rows ∙ ap (λ (n : ℕ). row_size r + n) rest ∙ sym (sum_by-cons row_size r left) ∙ moved ∙ ap (sum_by row_size) (sym cut.2)

-- a directory has one size, where the same stands at each path
pub one_size : (places others : Places) (dir : List ℕ) (a b : ℕ) → ((path : List ℕ) → places path ≡ others path) → HasSize places dir a → HasSize others dir b → a ≡ b
one_size places others dir a b same h k =
    h.sum ∙ same_sum h.rows k.rows (others_of h.rows h.once) (others_of k.rows k.once)
    (λ r c. let x = ((h.all r).0) c in ((k.all r).1) (x.0, sym (same (child dir r.0)) ∙ x.1))
    (λ r c. let x = ((k.all r).0) c in ((h.all r).1) (x.0, same (child dir r.0) ∙ x.1))
    ∙ sym k.sum
