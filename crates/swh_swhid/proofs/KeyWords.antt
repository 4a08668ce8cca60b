-- The words of the keys, and how far a piece goes along with a qualifier that may come next.
use Rattle.std.proofs.Common.{◌≡◌, ◌≢◌, ℕ, ◌+◌, ◌<◌, ◌≤◌, ◌==◌, if◌then◌else◌, max, true, false, None, List, [], ◌∷◌, ◌++◌, length, get_or, drop, decimal, refl, sym, ap, ◌∙◌, subst, arith}
use Rattle.std.proofs.lemmas.List.{append_cancel_left}
use Rattle.swh_swhid.specs.declared.identifier.Role.TheVariants.{Visit as AsVisit, Anchor as AsAnchor}
use Rattle.swh_swhid.specs.declared.swhid.Swhid.{Swhid}
use Rattle.swh_swhid.specs.declared.swhid.Key.{Key}
use Rattle.swh_swhid.specs.declared.swhid.Key.TheVariants.{Origin, Visit, Anchor, Path, Lines, Bytes}
use Rattle.swh_swhid.specs.Front.{BreaksAt, common}
use Rattle.swh_swhid.specs.Qualifier.{key_word, is_free, IsValueText, Says, AddsQualifier, MayComeNext}
use Rattle.swh_swhid.specs.Reading.{along_key}
use Rattle.swh_swhid.proofs.Fronts.{common-le, chosen_breaks, breaks_after}
use Rattle.swh_swhid.proofs.Cores.{any_core, word_first}
use Rattle.swh_swhid.proofs.KindWords.{max_of}
use Rattle.swh_swhid.proofs.Texts.{any_origin}

abbrev key_at : ℕ → Key
key_at c = if c == 111 then Origin else if c == 118 then Visit else if c == 97 then Anchor else if c == 112 then Path else if c == 108 then Lines else Bytes

key_at-first : (key : Key) (x : List ℕ) → key_at (get_or (key_word key ++ x) 0 0) ≡ key
key_at-first Origin x = refl
key_at-first Visit x = refl
key_at-first Anchor x = refl
key_at-first Path x = refl
key_at-first Lines x = refl
key_at-first Bytes x = refl

-- a key's word and what follows it
pub one_key : (k j : Key) (x y : List ℕ) → key_word k ++ x ≡ key_word j ++ y → (k ≡ j) × (x ≡ y)
one_key k j x y e =
    let same : k ≡ j = sym (key_at-first k x) ∙ ap (λ (t : List ℕ). key_at (get_or t 0 0)) e ∙ key_at-first j y in
    (same, append_cancel_left (key_word k) x y (e ∙ ap (λ (i : Key). key_word i ++ y) (sym same)))

-- some text of each key's values
record Full (key : Key) : Type 0 where
  text : List ℕ
  value : IsValueText key text

full : (key : Key) → Full key
full Origin = record { text = 97 ∷ []; value = any_origin }
full Visit = record { text = _; value = any_core AsVisit }
full Anchor = record { text = _; value = any_core AsAnchor }
full Path = record { text = 47 ∷ []; value = (refl, tt) }
full Lines = record { text = decimal 1; value = record { first = 1; more = None; range = record { low = omega arith; small = omega arith; last = tt }; spelled = refl } }
full Bytes = record { text = decimal 0; value = record { first = 0; more = None; range = record { low = omega arith; small = omega arith; last = tt }; spelled = refl } }

-- a free key whose word goes along this far
record Best (s : Swhid) (piece : List ℕ) (n : ℕ) : Type 0 where
  key : Key
  free : is_free s key ≡ true
  far : n ≤ common (key_word key) piece

best_of : (s : Swhid) (any key : Key) (piece : List ℕ) → is_free s any ≡ true → Best s piece (along_key s key piece)
best_of s any key piece h =
    elim (is_free s key) as (λ b. is_free s key ≡ b → Best s piece (if b then common (key_word key) piece else 0)) [
      | true ↦ λ e. record { key = key; free = e; far = omega arith }
      | false ↦ λ e. record { key = any; free = h; far = omega arith }
    ] refl

along-is : (s : Swhid) (key : Key) (piece : List ℕ) → is_free s key ≡ true → along_key s key piece ≡ common (key_word key) piece
along-is s key piece e = rw e refl

some-key_word : (key : Key) → 0 < length (key_word key)
some-key_word Origin = omega arith
some-key_word Visit = omega arith
some-key_word Anchor = omega arith
some-key_word Path = omega arith
some-key_word Lines = omega arith
some-key_word Bytes = omega arith

-- a key whose whole word the piece begins with is free
free_along : (s : Swhid) (key : Key) (piece : List ℕ) → along_key s key piece ≡ length (key_word key) → (is_free s key ≡ true) × (length (key_word key) ≤ common (key_word key) piece)
free_along s key piece h =
    let some = some-key_word key in
    elim (is_free s key) as (λ b. (if b then common (key_word key) piece else 0) ≡ length (key_word key) → (b ≡ true) × (length (key_word key) ≤ common (key_word key) piece)) [
      | true ↦ λ e. (refl, omega (arith, e))
      | false ↦ λ e. absurd (omega (arith, e, some))
    ] h

record Far (n a len : ℕ) : Type 0 where
  le : a ≤ n
  not_all : a ≢ len

far_enough : (s : Swhid) (key : Key) (piece : List ℕ) (n : ℕ) → Far n (along_key s key piece) (length (key_word key)) → is_free s key ≡ true → (common (key_word key) piece ≤ n) × (common (key_word key) piece < length (key_word key))
far_enough s key piece n far free =
    let le = far.le in
    let ne = far.not_all in
    let is = along-is s key piece free in
    let bound = (common-le (key_word key) piece).0 in
    let other : common (key_word key) piece ≢ length (key_word key) = λ e. ne (is ∙ e) in
    (omega (arith, le, is), omega (arith, bound, other))

pub key_breaks : (s : Swhid) (piece : List ℕ) (any : Key) (o v a p l b : ℕ) → is_free s any ≡ true → o ≡ along_key s Origin piece → v ≡ along_key s Visit piece → a ≡ along_key s Anchor piece → p ≡ along_key s Path piece → l ≡ along_key s Lines piece → b ≡ along_key s Bytes piece
    → o ≢ 7 → v ≢ 6 → a ≢ 7 → p ≢ 5 → l ≢ 6 → b ≢ 6 → BreaksAt (MayComeNext s) piece (max (max (max (max (max o v) a) p) l) b)
key_breaks s piece any o v a p l b free eo ev ea ep el eb no_o no_v no_a no_p no_l no_b =
    let n : ℕ = max (max (max (max (max o v) a) p) l) b in
    let P : ℕ → Type 0 = Best s piece in
    let each_best : (key : Key) (k : ℕ) → k ≡ along_key s key piece → P k = λ key k e. subst P (sym e) (best_of s any key piece free) in
    let best : Best s piece n =
    max_of P (max (max (max (max o v) a) p) l) b (max_of P (max (max (max o v) a) p) l (max_of P (max (max o v) a) p (max_of P (max o v) a (max_of P o v (each_best Origin o eo) (each_best Visit v ev)) (each_best Anchor a ea)) (each_best Path p ep)) (each_best Lines l el)) (each_best Bytes b eb) in
    let each : (k : Key) → Far n (along_key s k piece) (length (key_word k)) = λ k. elim k as (λ j. Far n (along_key s j piece) (length (key_word j))) [
      | Origin ↦ record { le = omega (arith, eo); not_all = λ e. no_o (eo ∙ e) }
      | Visit ↦ record { le = omega (arith, ev); not_all = λ e. no_v (ev ∙ e) }
      | Anchor ↦ record { le = omega (arith, ea); not_all = λ e. no_a (ea ∙ e) }
      | Path ↦ record { le = omega (arith, ep); not_all = λ e. no_p (ep ∙ e) }
      | Lines ↦ record { le = omega (arith, el); not_all = λ e. no_l (el ∙ e) }
      | Bytes ↦ record { le = omega (arith, eb); not_all = λ e. no_b (eb ∙ e) }
    ] in
    chosen_breaks Key key_word (is_free s) IsValueText piece n best.key (full best.key).text best.free best.far (full best.key).value (λ k may. far_enough s k piece n (each k) may)

-- the piece after a free key's word
key_cut : (s : Swhid) (key : Key) (piece : List ℕ) → along_key s key piece ≡ length (key_word key) → piece ≡ key_word key ++ drop (length (key_word key)) piece
key_cut s key piece h = word_first (key_word key) piece (free_along s key piece h).1

pub value_breaks : (s : Swhid) (key : Key) (piece : List ℕ) (n : ℕ) → along_key s key piece ≡ length (key_word key) → BreaksAt (IsValueText key) (drop (length (key_word key)) piece) n → BreaksAt (MayComeNext s) piece (length (key_word key) + n)
value_breaks s key piece n h b =
    let free = (free_along s key piece h).0 in
    let at = breaks_after (MayComeNext s) (IsValueText key) (key_word key) (drop (length (key_word key)) piece) n
    (λ y v. record { key = key; may_stand = free; rest = y; spelled = refl; follows = v })
    (λ y v. let both = one_key key v.key y v.rest v.spelled in subst (IsValueText key) (sym both.1) (subst (λ (k : Key). IsValueText k v.rest) (sym both.0) v.follows))
    b in
    subst (λ (t : List ℕ). BreaksAt (MayComeNext s) t (length (key_word key) + n)) (sym (key_cut s key piece h)) at

pub key_adds : (s t : Swhid) (key : Key) (piece : List ℕ) → along_key s key piece ≡ length (key_word key) → Says key (drop (length (key_word key)) piece) s t → AddsQualifier s piece t
key_adds s t key piece h says = record { key = key; free = (free_along s key piece h).0; value = drop (length (key_word key)) piece; spelled = key_cut s key piece h; says = says }
