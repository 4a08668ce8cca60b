-- The values of a name, field by field, and the items of a list.
use Rattle.std.proofs.Common.{◌≡◌, ℕ, ◌+◌, ◌<◌, suc, Bool, true, false, List, [], ◌∷◌, ◌++◌, length, map, take, get_or, Contains, refl, sym, ap, ◌∙◌, arith, append_assoc, All}
use Rattle.std.specs.Prelude.{◌==◌, ◌||◌, if◌then◌else◌}
use Rattle.std.specs.List.{list_any}
use Rattle.std.specs.Str.{str_eq_ignore_ascii_case}
use Rattle.std.proofs.lemmas.Bool.{ne_eqb}
use Rattle.std.proofs.lemmas.List.{map-append, take_more}
use Rattle.std.proofs.lemmas.List.Elements.{All-nil, All-cons, All-head, All-tail}
use Rattle.httparse.specs.declared.spans.HeaderSpan.{HeaderSpan}
use Rattle.httparse.specs.Spans.{header_bytes}
use Rattle.swh_http.specs.Field.{Pair, values, list_items, has_close, is_close}

one : (name : List ℕ) (f : Pair) (fs : List Pair) → values name (f ∷ fs) ≡ values name (f ∷ []) ++ values name fs
unfolding values
one name f fs = by-test (str_eq_ignore_ascii_case f.0 name)
  where
    by-test : (b : Bool) → (if b then f.1 ∷ values name fs else values name fs) ≡ (if b then f.1 ∷ [] else []) ++ values name fs
    by-test true = refl
    by-test false = refl

pub values-push : (name : List ℕ) (fs : List Pair) (f : Pair) → values name (fs ++ f ∷ []) ≡ values name fs ++ values name (f ∷ [])
unfolding values
values-push name [] f = refl
values-push name (g ∷ fs) f =
    one name g (fs ++ f ∷ []) ∙ ap (λ (x : List (List ℕ)). values name (g ∷ []) ++ x) (values-push name fs f)
    ∙ sym (append_assoc (values name (g ∷ [])) (values name fs) (values name (f ∷ [])))
    ∙ ap (λ (x : List (List ℕ)). x ++ values name (f ∷ [])) (sym (one name g fs))

pub values-yes : (name : List ℕ) (f : Pair) → str_eq_ignore_ascii_case f.0 name ≡ true → values name (f ∷ []) ≡ f.1 ∷ []
unfolding values
values-yes name f same = rw same refl

pub values-no : (name : List ℕ) (f : Pair) → str_eq_ignore_ascii_case f.0 name ≡ false → values name (f ∷ []) ≡ []
unfolding values
values-no name f other = rw other refl

-- one field more
pub values-next : (name head : List ℕ) (headers : List HeaderSpan) (i : ℕ) (d : HeaderSpan) → i < length headers
    → values name (map (header_bytes head) (take (i + 1) headers))
    ≡ values name (map (header_bytes head) (take i headers)) ++ values name (header_bytes head (get_or headers i d) ∷ [])
values-next name head headers i d small =
    ap (λ (hs : List HeaderSpan). values name (map (header_bytes head) hs)) (take_more headers i d small)
    ∙ ap (values name) (map-append (header_bytes head) (take i headers) (get_or headers i d ∷ []))
    ∙ values-push name (map (header_bytes head) (take i headers)) (header_bytes head (get_or headers i d))

-- ---- items

no-head : (b : ℕ) (bs : List ℕ) → (Contains (b ∷ bs) 44 → ⊥) → b == 44 ≡ false
no-head b bs none = ne_eqb b 44 (λ same. none (0, omega arith, same))

no-tail : (b : ℕ) (bs : List ℕ) → (Contains (b ∷ bs) 44 → ⊥) → Contains bs 44 → ⊥
no-tail b bs none has = none (suc has.0, omega (arith, has.1), has.2)

-- the first item ends at the first comma
items-cut : (item rest : List ℕ) → (Contains item 44 → ⊥) → list_items (item ++ 44 ∷ rest) ≡ item ∷ list_items rest
unfolding list_items
items-cut [] rest none = refl
items-cut (b ∷ bs) rest none = rw (no-head b bs none, items-cut bs rest (no-tail b bs none)) refl

items-one : (item : List ℕ) → (Contains item 44 → ⊥) → list_items item ≡ item ∷ []
unfolding list_items
items-one [] none = refl
items-one (b ∷ bs) none = rw (no-head b bs none, items-one bs (no-tail b bs none)) refl

pub close-cut : (value item rest : List ℕ) (b : Bool) → (Contains item 44 → ⊥) → value ≡ item ++ 44 ∷ rest
    → is_close item ≡ b → has_close value ≡ (b || has_close rest)
close-cut value item rest b none text close =
    ap has_close text ∙ ap (list_any is_close) (items-cut item rest none) ∙ ap (λ (x : Bool). x || has_close rest) close

pub close-one : (item : List ℕ) → (Contains item 44 → ⊥) → has_close item ≡ is_close item
close-one item none = ap (list_any is_close) (items-one item none) ∙ or-false (is_close item)
  where
    or-false : (b : Bool) → (b || false) ≡ b
    or-false true = refl
    or-false false = refl

-- ---- lengths

pub All-unmap : {X Y : Type 0} (P : X → Type 0) (f : Y → X) (ys : List Y) → All P (map f ys) → All (λ y. P (f y)) ys
All-unmap P f [] all = All-nil (λ y. P (f y))
All-unmap P f (y ∷ ys) all =
    All-cons (λ x. P (f x)) y ys (All-head P (f y) (map f ys) all) (All-unmap P f ys (All-tail P (f y) (map f ys) all))

pub list_any-map : {X Y : Type 0} (p : X → Bool) (f : Y → X) (ys : List Y) → list_any p (map f ys) ≡ list_any (λ y. p (f y)) ys
list_any-map p f [] = refl
list_any-map p f (y ∷ ys) = ap (λ (b : Bool). p (f y) || b) (list_any-map p f ys)
