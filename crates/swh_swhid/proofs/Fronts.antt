-- How far a text goes along with a language: after a front, and with one of several words in front.
use Rattle.std.proofs.Common.{◌≡◌, ◌≢◌, ℕ, zero, suc, ◌+◌, ◌<◌, ◌≤◌, ◌==◌, if◌then◌else◌, Bool, true, false, inl, inr, List, [], ◌∷◌, ◌++◌, length, get_or, take, drop, refl, sym, ap, ◌∙◌, subst, arith, add-one, append_assoc, length-append, length-drop, drop-cons}
use Rattle.std.proofs.lemmas.List.{take-append-drop, length-take}
use Rattle.std.proofs.lemmas.Bool.{eq-eqb, eqb-true, cases_order}
use Rattle.swh_swhid.specs.Front.{BreaksAt, common, Chosen}

-- Where each text of L that has this front goes on with one of M, L breaks where M breaks after it.
pub breaks_after : (L M : List ℕ → Type 0) (f x : List ℕ) (n : ℕ) → ((y : List ℕ) → M y → L (f ++ y)) → ((y : List ℕ) → L (f ++ y) → M y) → BreaksAt M x n → BreaksAt L (f ++ x) (length f + n)
breaks_after L M f x n to from b = record {
  front = f ++ b.front;
  rest = b.rest;
  cut = ap (λ (t : List ℕ). f ++ t) b.cut ∙ sym (append_assoc f b.front b.rest);
  here = ap (λ (k : ℕ). length f + k) b.here ∙ sym (length-append f b.front);
  more = b.more;
  goes_on = subst L (sym (append_assoc f b.front b.more)) (to (b.front ++ b.more) b.goes_on);
  stops = λ c tail y e h. b.stops c tail y e (from (b.front ++ c ∷ y) (subst L (append_assoc f b.front (c ∷ y)) h));
  refused = λ h. b.refused (from x h);
}

-- The same language breaks at the same place.
pub breaks_same : (L M : List ℕ → Type 0) (x : List ℕ) (n : ℕ) → ((y : List ℕ) → M y → L y) → ((y : List ℕ) → L y → M y) → BreaksAt M x n → BreaksAt L x n
breaks_same L M x n to from b = record {
  front = b.front;
  rest = b.rest;
  cut = b.cut;
  here = b.here;
  more = b.more;
  goes_on = to (b.front ++ b.more) b.goes_on;
  stops = λ c tail y e h. b.stops c tail y e (from (b.front ++ c ∷ y) h);
  refused = λ h. b.refused (from x h);
}

common-same : (c d : ℕ) (w t : List ℕ) → c ≡ d → common (c ∷ w) (d ∷ t) ≡ suc (common w t)
common-same c d w t e = rw (eq-eqb c d e) refl

-- a word's own bytes are common to it and to what begins with it
common-front : (w y : List ℕ) → common w (w ++ y) ≡ length w
common-front [] y = refl
common-front (c ∷ w) y = common-same c c w (w ++ y) refl ∙ ap suc (common-front w y)

-- as much of the word as is common stands at the front of the text
pub take-common : (w t : List ℕ) (n : ℕ) → n ≤ common w t → take n w ≡ take n t
take-common w t zero h = refl
take-common [] t (suc n) h = absurd (omega arith)
take-common (c ∷ w) [] (suc n) h = absurd (omega arith)
take-common (c ∷ w) (d ∷ t) (suc n) h =
    elim (c == d) as (λ b. (c == d) ≡ b → suc n ≤ (if b then suc (common w t) else 0) → take (suc n) (c ∷ w) ≡ take (suc n) (d ∷ t)) [
      | true ↦ λ e le. let rest = take-common w t n (omega arith) in let first = eqb-true c d e in cc
      | false ↦ λ e le. absurd (omega arith)
    ] refl h

-- A word that goes along with a front and a byte, but is no front of what stands there, has that byte in common.
agree : (c y f tail x : List ℕ) (b : ℕ) → c ++ y ≡ f ++ b ∷ x → common c (f ++ b ∷ tail) < length c → length f < common c (f ++ b ∷ tail)
agree [] y f tail x b e h = absurd (omega arith)
agree (d ∷ c) y [] tail x b e h =
    let same : d ≡ b = cc in
    rw (common-same d b c tail same) (omega arith)
agree (d ∷ c) y (a ∷ f) tail x b e h =
    let same : d ≡ a = cc in
    let after : c ++ y ≡ f ++ b ∷ x = cc in
    let whole = common-same d a c (f ++ b ∷ tail) same in
    let short : common c (f ++ b ∷ tail) < length c = omega (arith, whole, h) in
    let on = agree c y f tail x b after short in
    omega (arith, whole, on)

pub common-le : (w t : List ℕ) → (common w t ≤ length w) × (common w t ≤ length t)
common-le [] t = (omega arith, omega arith)
common-le (c ∷ w) [] = (omega arith, omega arith)
common-le (c ∷ w) (d ∷ t) =
    let rest = common-le w t in
    elim (c == d) as (λ b. ((if b then suc (common w t) else 0) ≤ suc (length w)) × ((if b then suc (common w t) else 0) ≤ suc (length t))) [
      | true ↦ (omega arith, omega arith)
      | false ↦ (omega arith, omega arith)
    ]

-- Where no word that may stand here is a front of the text, it breaks after what the best of them has in
-- common with it.
pub chosen_breaks : (K : Type 0) (word : K → List ℕ) (may : K → Bool) (L : K → List ℕ → Type 0) (text : List ℕ) (n : ℕ) (best : K) (rest : List ℕ) → may best ≡ true → n ≤ common (word best) text → L best rest
    → ((k : K) → may k ≡ true → (common (word k) text ≤ n) × (common (word k) text < length (word k))) → BreaksAt (Chosen K word may L) text n
chosen_breaks K word may L text n best rest ok le follows others =
    let cut = take-append-drop n text in
    let bound = common-le (word best) text in
    let long : n ≤ length text = omega (arith, bound.1, le) in
    record {
      front = take n text;
      rest = drop n text;
      cut = sym cut;
      here = sym (length-take n text ∙ omega (arith, long));
      more = drop n (word best) ++ rest;
      goes_on = record {
        key = best;
        may_stand = ok;
        rest = rest;
        spelled = sym (append_assoc (take n text) (drop n (word best)) rest) ∙ ap (λ (t : List ℕ). (t ++ drop n (word best)) ++ rest) (sym (take-common (word best) text n le)) ∙ ap (λ (t : List ℕ). t ++ rest) (take-append-drop n (word best));
        follows = follows;
      };
      stops = λ b tail x e h.
          let here = others h.key h.may_stand in
          let whole : take n text ++ b ∷ tail ≡ text = ap (λ (t : List ℕ). take n text ++ t) (sym e) ∙ cut in
          let short : common (word h.key) (take n text ++ b ∷ tail) < length (word h.key) = rw whole here.1 in
          let on = agree (word h.key) h.rest (take n text) tail x b (sym h.spelled) short in
          let bounded : common (word h.key) (take n text ++ b ∷ tail) ≤ n = rw whole here.0 in
          let len : length (take n text) ≡ n = length-take n text ∙ omega (arith, long) in
          omega (arith, on, bounded, len);
      refused = λ h.
          let here = others h.key h.may_stand in
          let same : common (word h.key) text ≡ length (word h.key) = ap (common (word h.key)) h.spelled ∙ common-front (word h.key) h.rest in
          omega (arith, here.1, same);
    }

-- one more byte that the two share, or the first that they do not
pub common-step : (w t : List ℕ) (i : ℕ) → i < length w → i < length t → get_or t i 0 ≡ get_or w i 0 → common (drop i w) (drop i t) ≡ 1 + common (drop (i + 1) w) (drop (i + 1) t)
common-step w t i hw ht e = rw (add-one, drop-cons w i 0, drop-cons t i 0) (common-same (get_or w i 0) (get_or t i 0) (drop (suc i) w) (drop (suc i) t) (sym e) ∙ (omega arith))

pub common-stop : (w t : List ℕ) (i : ℕ) → i < length w → i < length t → get_or t i 0 ≢ get_or w i 0 → common (drop i w) (drop i t) ≡ 0
common-stop w t i hw ht ne = rw (drop-cons w i 0, drop-cons t i 0) (elim (get_or w i 0 == get_or t i 0) as (λ b. (get_or w i 0 == get_or t i 0) ≡ b → (if b then suc (common (drop (suc i) w) (drop (suc i) t)) else 0) ≡ 0) [
  | true ↦ λ e. absurd (ne (sym (eqb-true (get_or w i 0) (get_or t i 0) e)))
  | false ↦ λ e. refl
] refl)

pub common-end : (w t : List ℕ) (i : ℕ) → length t ≤ i → common (drop i w) (drop i t) ≡ 0
common-end w t i h = let bound = (common-le (drop i w) (drop i t)).1 in omega (arith, bound, length-drop i t, h)

pub common-over : (w t : List ℕ) (i : ℕ) → length w ≤ i → common (drop i w) t ≡ 0
common-over w t i h = let bound = (common-le (drop i w) t).0 in omega (arith, bound, length-drop i w, h)

-- Of two fronts of one text the longer goes on from the shorter.
longer_front : (f r g s : List ℕ) → f ++ r ≡ g ++ s → length f < length g → (c : ℕ) × (mid : List ℕ) × (g ≡ f ++ c ∷ mid) × (r ≡ c ∷ (mid ++ s))
longer_front f r [] s e h = absurd (omega arith)
longer_front [] r (d ∷ g) s e h = (d, g, refl, e)
longer_front (c ∷ f) r (d ∷ g) s e h =
    let same : c ≡ d = cc in
    let after : f ++ r ≡ g ++ s = cc in
    let rest = longer_front f r g s after (omega arith) in
    let cut = rest.2 in (rest.0, rest.1, cc, rest.3)

no_later : (L : List ℕ → Type 0) (text : List ℕ) (m n : ℕ) → BreaksAt L text m → BreaksAt L text n → m < n → ⊥
no_later L text m n a b h =
    let am = a.here in
    let bn = b.here in
    let more = longer_front a.front a.rest b.front b.rest (sym a.cut ∙ b.cut) (omega arith) in
    a.stops more.0 (more.1 ++ b.rest) (more.1 ++ b.more) more.3 (subst L (ap (λ (t : List ℕ). t ++ b.more) more.2 ∙ append_assoc a.front (more.0 ∷ more.1) b.more) b.goes_on)

-- a text breaks off at one place
pub one_break : (L : List ℕ → Type 0) (text : List ℕ) (m n : ℕ) → BreaksAt L text m → BreaksAt L text n → m ≡ n
one_break L text m n a b = elim (cases_order m n) [
  | inl same ↦ same
  | inr (inl less) ↦ absurd (no_later L text m n a b less)
  | inr (inr more) ↦ absurd (no_later L text n m b a more)
]
