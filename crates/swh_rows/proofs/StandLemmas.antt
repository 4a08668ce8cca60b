-- At which places names stand, with one row more or less, and among the first of the rows.
use Rattle.std.proofs.Common.{◌≡◌, ◌≢◌, ◌⊎◌, inl, inr, ℕ, zero, suc, ◌+◌, ◌-◌, ◌<◌, ◌≤◌, true, false, Option, Some, None, Result, Ok, Err, List, [], ◌∷◌, ◌++◌, length, take, drop, get_or, refl, sym, ap, ◌∙◌, subst, arith}
use Rattle.std.specs.Prelude.{Contains, IfNone, IfSome, OnOk, OnErr, is_some, slice_get}
use Rattle.std.specs.Option.{option_copied}
use Rattle.std.specs.Slice.{IsGetResult}
use Rattle.std.proofs.Common.{Bor}
use Rattle.std.proofs.lemmas.List.{length-take, length-take-le, take-append-drop, take_all, take_more}
use Rattle.std.proofs.lemmas.Option.{slice_get_past, slice_get_within, slice_get-get_or, slice_get_read, slice_get_cases, get_or_from_slice_get}
use Rattle.swh_base.specs.declared.name.Name.{Name}
use Rattle.swh_rows.specs.Rows.{StandsAt, AreDistinct, AreFresh}

-- ---- items at places

-- what `get` gives of a list
pub copied_at : {X : Type 0} (xs : List X) (i : ℕ) (r : Option (Bor X)) → IsGetResult xs i i r → option_copied r ≡ slice_get xs i
copied_at xs i None h = sym (slice_get_past xs i h.3)
copied_at xs i (Some x) h = sym (slice_get-get_or xs i x.now h.3.0 ∙ ap Some (sym (h.3.1 x.now)))

pub get-left : {X : Type 0} (xs ys : List X) (i : ℕ) → i < length xs → slice_get (xs ++ ys) i ≡ slice_get xs i
get-left [] ys i less = absurd (omega (arith, less))
get-left (x ∷ xs) ys zero less = refl
get-left (x ∷ xs) ys (suc i) less = get-left xs ys i (omega (arith, less))

pub get-right : {X : Type 0} (xs ys : List X) (i j : ℕ) → i ≡ length xs + j → slice_get (xs ++ ys) i ≡ slice_get ys j
get-right [] ys i j e = ap (slice_get ys) (omega (arith, e))
get-right (x ∷ xs) ys zero j e = absurd (omega (arith, e))
get-right (x ∷ xs) ys (suc i) j e = get-right xs ys i j (omega (arith, e))

pub get-before : {X : Type 0} (count : ℕ) (xs : List X) (i : ℕ) → i < count → slice_get (take count xs) i ≡ slice_get xs i
get-before zero xs i less = absurd (omega (arith, less))
get-before (suc count) [] i less = refl
get-before (suc count) (x ∷ xs) zero less = refl
get-before (suc count) (x ∷ xs) (suc i) less = get-before count xs i (omega (arith, less))

pub get-behind : {X : Type 0} (count : ℕ) (xs : List X) (i : ℕ) → count ≤ i → slice_get (take count xs) i ≡ None
get-behind count xs i behind = slice_get_past (take count xs) i (let len = length-take count xs in omega (arith, len, behind))

-- ---- a name that stands somewhere

pub contains_at : (names : List Name) (n : Name) (place : ℕ) → StandsAt names n place → Contains names n
contains_at names n place there = (place, slice_get_within names place n there, get_or_from_slice_get names place n n there)

pub stands_in : (names : List Name) (n : Name) → (there : Contains names n) → StandsAt names n there.0
stands_in names n there = slice_get_read names (length names) there.0 n refl there.1 (sym there.2)

-- where it stands at no place, it is not among them
pub lacks : (names : List Name) (n : Name) → ((place : ℕ) → StandsAt names n place → ⊥) → Contains names n → ⊥
lacks names n none there = none there.0 (stands_in names n there)

pub same_name : (names : List Name) (n m : Name) (place : ℕ) → StandsAt names n place → StandsAt names m place → n ≡ m
same_name names n m place a b = let e : Some n ≡ Some m = sym a ∙ b in cc

pub stands-more : (names rest : List Name) (n : Name) (place : ℕ) → StandsAt names n place → StandsAt (names ++ rest) n place
stands-more names rest n place there = get-left names rest place (slice_get_within names place n there) ∙ there

pub stands-last : (names : List Name) (n : Name) → StandsAt (names ++ n ∷ []) n (length names)
stands-last names n = get-right names (n ∷ []) (length names) 0 (omega arith)

pub stands-push : (names : List Name) (n m : Name) (place : ℕ) → StandsAt (names ++ n ∷ []) m place → StandsAt names m place ⊎ ((place ≡ length names) × (m ≡ n))
stands-push [] n m zero there = inr (refl, let e : Some n ≡ Some m = there in cc)
stands-push [] n m (suc place) there = let never : None ≡ Some m = there in cc
stands-push (x ∷ names) n m zero there = inl there
stands-push (x ∷ names) n m (suc place) there = by_rest (stands-push names n m place there)
  where
    by_rest : StandsAt names m place ⊎ ((place ≡ length names) × (m ≡ n)) → StandsAt (x ∷ names) m (suc place) ⊎ ((suc place ≡ length (x ∷ names)) × (m ≡ n))
    by_rest (inl before) = inl before
    by_rest (inr last) = inr (ap suc last.0, last.1)

-- ---- the first of the names

pub stands-whole : (count : ℕ) (names : List Name) (n : Name) (place : ℕ) → StandsAt (take count names) n place → StandsAt names n place
stands-whole count names n place there =
    subst (λ (l : List Name). StandsAt l n place) (take-append-drop count names) (stands-more (take count names) (drop count names) n place there)

pub stands-inside : (count : ℕ) (names : List Name) (n : Name) (place : ℕ) → StandsAt (take count names) n place → place < count
stands-inside count names n place there =
    let inside : place < length (take count names) = slice_get_within (take count names) place n there in
    let len = length-take count names in
    omega (arith, inside, len)

pub distinct-front : (count : ℕ) (names : List Name) → AreDistinct names → AreDistinct (take count names)
distinct-front count names distinct n i j a b = distinct n i j (stands-whole count names n i a) (stands-whole count names n j b)

-- the name of a row is not that of one before it
pub absent-before : (names : List Name) (n : Name) (place : ℕ) → AreDistinct names → StandsAt names n place → Contains (take place names) n → ⊥
absent-before names n place distinct there twin =
    let before = stands_in (take place names) n twin in
    let less : twin.0 < place = stands-inside place names n twin.0 before in
    let same : twin.0 ≡ place = distinct n twin.0 place (stands-whole place names n twin.0 before) there in
    omega (arith, less, same)

pub take-next : (names : List Name) (n : Name) (place : ℕ) → StandsAt names n place → take (place + 1) names ≡ take place names ++ n ∷ []
take-next names n place there =
    take_more names place n (slice_get_within names place n there)
    ∙ ap (λ (m : Name). take place names ++ m ∷ []) (get_or_from_slice_get names place n n there)

pub take-last : (names : List Name) (n : Name) (place : ℕ) → 0 < place → StandsAt names n (place - 1) → take place names ≡ take (place - 1) names ++ n ∷ []
take-last names n place some there = ap (λ (k : ℕ). take k names) (omega (arith, some)) ∙ take-next names n (place - 1) there

pub length-front : (names : List Name) (n : Name) (place : ℕ) → StandsAt names n place → length (take place names) ≡ place
length-front names n place there = length-take-le place names (let inside = slice_get_within names place n there in omega (arith, inside))

-- ---- one row more or less

pub distinct-none : AreDistinct []
distinct-none n i j a b = let never : None ≡ Some n = a in cc

pub distinct-push : (names : List Name) (n : Name) → AreDistinct names → (Contains names n → ⊥) → AreDistinct (names ++ n ∷ [])
distinct-push names n distinct absent m i j a b = by_places (stands-push names n m i a) (stands-push names n m j b)
  where
    here : (k : ℕ) → m ≡ n → StandsAt names m k → ⊥
    here k same there = absent (contains_at names n k (subst (λ (x : Name). StandsAt names x k) same there))

    by_places : StandsAt names m i ⊎ ((i ≡ length names) × (m ≡ n)) → StandsAt names m j ⊎ ((j ≡ length names) × (m ≡ n)) → i ≡ j
    by_places (inl first) (inl second) = distinct m i j first second
    by_places (inl first) (inr last) = absurd (here i last.1 first)
    by_places (inr last) (inl second) = absurd (here j last.1 second)
    by_places (inr last) (inr again) = last.0 ∙ sym again.0

pub distinct-pop : (names rest : List Name) → AreDistinct (names ++ rest) → AreDistinct names
distinct-pop names rest distinct n i j a b = distinct n i j (stands-more names rest n i a) (stands-more names rest n j b)

-- the last name stands nowhere else
pub last-alone : (names : List Name) (n m : Name) (place : ℕ) → AreDistinct (names ++ n ∷ []) → StandsAt names m place → m ≢ n
last-alone names n m place distinct there same =
    let here : StandsAt names n place = subst (λ (x : Name). StandsAt names x place) same there in
    let less : place < length names = slice_get_within names place n here in
    let equal : place ≡ length names = distinct n place (length names) (stands-more names (n ∷ []) n place here) (stands-last names n) in
    omega (arith, less, equal)

-- ---- up to the first name that stands twice

pub fresh-before : (names : List Name) (n : Name) (place : ℕ) (found : Option ℕ) → StandsAt names n place → AreDistinct (take place names) → is_some found ≡ true → IfSome found (StandsAt (take place names) n) → AreFresh names place
fresh-before names n place None there distinct some at = absurd (let never : false ≡ true = some in cc)
fresh-before names n place (Some k) there distinct some at =
    record {
      inside = let less = slice_get_within names place n there in omega (arith, less);
      distinct = distinct;
      twice = λ m here. subst (Contains (take place names)) (same_name names n m place there here) (contains_at (take place names) n k at);
    }

pub fresh-all : (names : List Name) (count : ℕ) → count ≡ length names → AreDistinct (take count names) → AreFresh names count
fresh-all names count all distinct =
    record {
      inside = omega (arith, all);
      distinct = distinct;
      twice = λ n there. let less = slice_get_within names count n there in absurd (omega (arith, less, all));
    }

-- where no two rows have one name, none is left out
pub fresh-whole : (names : List Name) (count : ℕ) → AreFresh names count → AreDistinct names → take count names ≡ names
fresh-whole names count fresh distinct = by_row ((slice_get_cases names count).1)
  where
    by_row : ((n : Name) × (count < length names) × (slice_get names count ≡ Some n) × (get_or names count n ≡ n)) ⊎ ((length names ≤ count) × (slice_get names count ≡ None)) → take count names ≡ names
    by_row (inl row) = absurd (absent-before names row.0 count distinct row.2 (fresh.twice row.0 row.2))
    by_row (inr past) = take_all count names past.0

pub when_none : (found : Option ℕ) (P : Type 0) → is_some found ≡ false → IfNone found P → P
when_none None P none h = h
when_none (Some k) P none h = absurd (let never : true ≡ false = none in cc)

pub if_none : (found : Option ℕ) (P Q : Type 0) → IfNone found P → (P → Q) → IfNone found Q
if_none None P Q h f = f h
if_none (Some k) P Q h f = tt

pub on_ok : {T E : Type 0} (r : Result T E) (P Q : Type 0) → OnOk r P → (P → Q) → OnOk r Q
on_ok (Ok x) P Q h f = f h
on_ok (Err e) P Q h f = tt

pub on_err : {T E : Type 0} (r : Result T E) (P Q : Type 0) → OnErr r P → (P → Q) → OnErr r Q
on_err (Ok x) P Q h f = tt
on_err (Err e) P Q h f = f h
