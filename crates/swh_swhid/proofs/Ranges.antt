-- How far texts go along with numbers and ranges.
use Rattle.std.proofs.Common.{◌≡◌, ◌≢◌, ℕ, zero, suc, ◌+◌, ◌^◌, ◌<◌, ◌≤◌, ◌⊎◌, inl, inr, List, [], ◌∷◌, ◌++◌, length, get_or, take, drop, Option, Some, None, Contains, decimal, refl, sym, ap, ◌∙◌, subst, arith, append_assoc, length-append, drop-cons}
use Rattle.std.proofs.lemmas.Bool.{cases_lt, cases_order}
use Rattle.std.proofs.lemmas.List.{take-append-drop, length-take-le, take_all}
use Rattle.std.proofs.lemmas.List.Elements.{Contains-append_right}
use Rattle.std.proofs.Math.ListN.{drop_of_length-le}
use Rattle.std.proofs.lemmas.Fmt.{decimal_injective}
use Rattle.swh_base.proofs.Splits.{first_split}
use Rattle.swh_swhid.specs.Front.{BreaksAt}
use Rattle.swh_swhid.specs.Number.{number_limit, IsNumberText, HasNumber, IsRange, HasRange, range_text, read_on, BeginsNumber, MayTakeDigit, IsNumberFront}
use Rattle.swh_swhid.proofs.Fronts.{breaks_after}
use Rattle.swh_swhid.proofs.Numerals.{AreDigits, AreNumber, number_text, text_number, is_number, number_digits, follows, completes, value-small, zero_head}

-- digits that begin a number and are some are one themselves
goes_on-number : (least value : ℕ) (ds : List ℕ) → BeginsNumber least ds value → 0 < length ds → AreNumber ds
goes_on-number least value ds g some = record { are_digits = g.are_digits; some = some; few = g.few; no_zero = g.no_zero }

-- the byte at a place
pub byte_at : (text : List ℕ) (n b : ℕ) (tail : List ℕ) → drop n text ≡ b ∷ tail → (n < length text) × (get_or text n 0 ≡ b)
byte_at text n b tail e =
    elim (cases_lt n (length text)) [
      | inl within ↦ (within, ap (λ (t : List ℕ). get_or t 0 0) (sym (drop-cons text n 0 within) ∙ e))
      | inr over ↦ let none : drop n text ≡ [] = drop_of_length-le text over in absurd cc
    ]

at_byte : (text : List ℕ) (n : ℕ) → n < length text → text ≡ take n text ++ get_or text n 0 ∷ drop (suc n) text
at_byte text n within = sym (take-append-drop n text) ∙ ap (λ (t : List ℕ). take n text ++ t) (drop-cons text n 0 within)

-- no number goes on from the longest digits
no_number : (least : ℕ) (text : List ℕ) (value n b : ℕ) (x : List ℕ) → IsNumberFront least text value n → n < length text → get_or text n 0 ≡ b → HasNumber least (take n text ++ b ∷ x) → ⊥
no_number least text value n b x f within at h =
    let digits = number_digits least (take n text ++ b ∷ x) h in
    let len = length-take-le n text f.within in
    let may = follows least value (take n text) b x f.goes_on digits.0 digits.1 in
    f.stops within (subst (λ (c : ℕ). MayTakeDigit least value n c) (sym at) (subst (λ (k : ℕ). MayTakeDigit least value k b) len may))

pub number_breaks : (least : ℕ) (text : List ℕ) (value n : ℕ) → least < number_limit → IsNumberFront least text value n → (n ≡ length text → HasNumber least text → ⊥) → BreaksAt (HasNumber least) text n
number_breaks least text value n small f whole =
    let rest = completes least value (take n text) small f.goes_on in
    record {
      front = take n text;
      rest = drop n text;
      cut = sym (take-append-drop n text);
      here = sym (length-take-le n text f.within);
      more = rest.more;
      goes_on = rest.number;
      stops = λ b tail x e h. let at = byte_at text n b tail e in no_number least text value n b x f at.0 at.1 h;
      refused = λ h. elim (cases_lt n (length text)) [
        | inl within ↦ no_number least text value n (get_or text n 0) (drop (suc n) text) f within refl (subst (HasNumber least) (at_byte text n within) h)
        | inr over ↦ let le = f.within in whole (omega arith) h
      ];
    }

-- no number is nothing
pub no_empty_number : (least : ℕ) (text : List ℕ) → length text ≡ 0 → HasNumber least text → ⊥
no_empty_number least text e h = let some = (number_digits least text h).0.some in omega arith

front_whole : (text : List ℕ) (n : ℕ) → n ≡ length text → take n text ≡ text
front_whole text n e = take_all n text (omega arith)

-- whole digits below the least are no number of at least it
pub number_low : (least : ℕ) (text : List ℕ) (value n : ℕ) → IsNumberFront least text value n → n ≡ length text → value < least → HasNumber least text → ⊥
number_low least text value n f e low h =
    let enough = (number_digits least text h).1 in
    let is : value ≡ read_on 0 text = f.goes_on.is ∙ ap (read_on 0) (front_whole text n e) in
    omega arith

-- whole digits are a number
pub number_read : (least : ℕ) (text : List ℕ) (value n : ℕ) → IsNumberFront least text value n → n ≡ length text → 0 < n → least ≤ value → IsNumberText least text value
number_read least text value n f e some low =
    let whole = front_whole text n e in
    let is : value ≡ read_on 0 text = f.goes_on.is ∙ ap (read_on 0) whole in
    let number : AreNumber text = subst AreNumber whole (goes_on-number least value (take n text) f.goes_on (omega (arith, length-take-le n text f.within))) in
    subst (IsNumberText least text) (sym is) (is_number least text number (omega arith))

digit-no_dash : (ds : List ℕ) → AreDigits ds → Contains ds 45 → ⊥
digit-no_dash [] h k = let l = k.1 in omega (arith, l)
digit-no_dash (d ∷ ds) h (zero, l, e) = let digit = h.0 in omega (arith, digit, e)
digit-no_dash (d ∷ ds) h (suc k, l, e) = digit-no_dash ds h.1 (k, omega arith, e)

decimal-digits : (n : ℕ) → n < number_limit → AreDigits (decimal n)
decimal-digits n h = (text_number n h).0.are_digits

-- a text that goes on after a front with another byte than the one that ends it
split_later : (s b : ℕ) (a f x y : List ℕ) → (Contains f s → ⊥) → b ≢ s → a ++ s ∷ y ≡ f ++ b ∷ x → (more : List ℕ) × (a ≡ f ++ b ∷ more)
split_later s b [] [] x y free ne e = absurd (ne cc)
split_later s b [] (c ∷ f) x y free ne e = absurd (free (0, omega arith, cc))
split_later s b (d ∷ a) [] x y free ne e = let same : d ≡ b = cc in (a, cc)
split_later s b (d ∷ a) (c ∷ f) x y free ne e =
    let same : d ≡ c = cc in
    let after : a ++ s ∷ y ≡ f ++ b ∷ x = cc in
    let rest = split_later s b a f x y (λ h. let l = h.1 in free (suc h.0, omega (arith, l), h.2)) ne after in
    let found = rest.1 in (rest.0, cc)

-- the digits of a range's first number, and a byte that may not follow them
range_first : (least first : ℕ) (more : Option ℕ) → IsRange least first more → HasNumber least (decimal first)
range_first least first more h = record { number = first; is = record { low = h.low; small = h.small; spelled = refl } }

head_digit : (ds x y : List ℕ) → AreDigits ds → 0 < length ds → ds ++ x ≡ 45 ∷ y → ⊥
head_digit [] x y h some e = omega arith
head_digit (d ∷ ds) x y h some e = let same : d ≡ 45 = cc in let digit = h.0 in omega (arith, digit, same)

is_dash : (b : ℕ) → (b ≡ 45) ⊎ (b ≢ 45)
is_dash b = elim (cases_order b 45) [
  | inl same ↦ inl same
  | inr (inl less) ↦ inr (λ e. omega (arith, e, less))
  | inr (inr more) ↦ inr (λ e. omega (arith, e, more))
]

front_none : (f : List ℕ) (b : ℕ) (x : List ℕ) → length f ≡ 0 → b ≡ 45 → f ++ b ∷ x ≡ 45 ∷ x
front_none [] b x e is = cc
front_none (c ∷ f) b x e is = absurd (omega arith)

length-range_text : (first : ℕ) (more : Option ℕ) → length (decimal first) ≤ length (range_text first more)
length-range_text first None = omega arith
length-range_text first (Some last) = omega (arith, length-append (decimal first) (45 ∷ decimal last))

no_dash_first : (first : ℕ) (x y : List ℕ) → first < number_limit → decimal first ++ x ≡ 45 ∷ y → ⊥
no_dash_first first x y small e =
    let digits = (text_number first small).0 in
    head_digit (decimal first) x y digits.are_digits digits.some e

no_range : (least : ℕ) (text : List ℕ) (value n b : ℕ) (x : List ℕ) → IsNumberFront least text value n → n < length text → get_or text n 0 ≡ b → (b ≡ 45 → n ≡ 0) → HasRange least (take n text ++ b ∷ x) → ⊥
no_range least text value n b x f within at dash h =
    elim h.more as (λ m. IsRange least h.first m → take n text ++ b ∷ x ≡ range_text h.first m → ⊥) [
      | None ↦ λ r e. no_number least text value n b x f within at (subst (HasNumber least) (sym e) (range_first least h.first None r))
      | Some last ↦ λ r e. elim (is_dash b) [
        | inl same ↦ no_dash_first h.first (45 ∷ decimal last) x r.small (sym e ∙ front_none (take n text) b x (length-take-le n text f.within ∙ dash same) same)
        | inr other ↦ let first = split_later 45 b (decimal h.first) (take n text) x (decimal last) (digit-no_dash (take n text) f.goes_on.are_digits) other (sym e) in
            no_number least text value n b first.0 f within at (subst (HasNumber least) first.1 (range_first least h.first (Some last) r))
      ]
    ] h.range h.spelled

no_empty_range : (least : ℕ) (text : List ℕ) → length text ≡ 0 → HasRange least text → ⊥
no_empty_range least text e h =
    let some = (text_number h.first h.range.small).0.some in
    let len : length text ≡ length (range_text h.first h.more) = ap (λ (t : List ℕ). length t) h.spelled in
    let more = length-range_text h.first h.more in
    omega arith

-- Where no number may go on, and no `-` follows one, a range breaks.
pub range_breaks : (least : ℕ) (text : List ℕ) (value n : ℕ) → least < number_limit → IsNumberFront least text value n → (get_or text n 0 ≡ 45 → n ≡ 0) → (n ≡ length text → n ≡ 0) → BreaksAt (HasRange least) text n
range_breaks least text value n small f dash whole =
    let rest = completes least value (take n text) small f.goes_on in
    record {
      front = take n text;
      rest = drop n text;
      cut = sym (take-append-drop n text);
      here = sym (length-take-le n text f.within);
      more = rest.more;
      goes_on = record { first = rest.number.number; more = None; range = record { low = rest.number.is.low; small = rest.number.is.small; last = tt }; spelled = rest.number.is.spelled };
      stops = λ b tail x e h. let at = byte_at text n b tail e in no_range least text value n b x f at.0 at.1 (λ is. dash (at.1 ∙ is)) h;
      refused = λ h. elim (cases_lt n (length text)) [
        | inl within ↦ no_range least text value n (get_or text n 0) (drop (suc n) text) f within refl dash (subst (HasRange least) (at_byte text n within) h)
        | inr over ↦ let le = f.within in let top : n ≡ length text = omega arith in no_empty_range least text (sym top ∙ whole top) h
      ];
    }

-- some digits that begin a number of at least 0 or 1 are one
first_low : (least value : ℕ) (ds : List ℕ) → least ≤ 1 → BeginsNumber least ds value → 0 < length ds → least ≤ value
first_low least zero (d ∷ ds) low g some = let none = g.only_zero (zero_head d ds g.are_digits.0 (sym g.is)) in omega (arith, none)
first_low least (suc value) (d ∷ ds) low g some = omega arith
first_low least value [] low g some = absurd (omega arith)

-- a range after its first number and the `-`, both ways
range_in : (least value : ℕ) (y : List ℕ) → least ≤ value → value < number_limit → HasNumber value y → HasRange least (decimal value ++ 45 ∷ y)
range_in least value y low small h = record {
  first = value;
  more = Some h.number;
  range = record { low = low; small = small; last = (h.is.low, h.is.small) };
  spelled = ap (λ (t : List ℕ). decimal value ++ 45 ∷ t) h.is.spelled;
}

range_out : (least value : ℕ) (y : List ℕ) → value < number_limit → HasRange least (decimal value ++ 45 ∷ y) → HasNumber value y
range_out least value y small h =
    elim h.more as (λ m. IsRange least h.first m → decimal value ++ 45 ∷ y ≡ range_text h.first m → HasNumber value y) [
      | None ↦ λ r e. absurd (digit-no_dash (decimal value ++ 45 ∷ y) (subst AreDigits (sym e) (decimal-digits h.first r.small)) (Contains-append_right (decimal value) (45 ∷ y) 45 (0, omega arith, refl)))
      | Some last ↦ λ r e.
          let both = first_split 45 (decimal value) (decimal h.first) y (decimal last) (digit-no_dash (decimal value) (decimal-digits value small)) (digit-no_dash (decimal h.first) (decimal-digits h.first r.small)) e in
          let rs = r.small in
          let same = decimal_injective value h.first (omega (arith, small)) (omega (arith, rs)) both.0 in
          record { number = last; is = record { low = omega (arith, same, r.last.0); small = r.last.1; spelled = both.1 } }
    ] h.range h.spelled

-- the text up to a `-`
dash_cut : (least : ℕ) (text : List ℕ) (value n : ℕ) → IsNumberFront least text value n → 0 < n → n < length text → get_or text n 0 ≡ 45 → text ≡ decimal value ++ 45 ∷ drop (suc n) text
dash_cut least text value n f some within dash =
    let number = goes_on-number least value (take n text) f.goes_on (omega (arith, length-take-le n text f.within)) in
    let spelled : take n text ≡ decimal value = number_text (take n text) number ∙ ap decimal (sym f.goes_on.is) in
    at_byte text n within ∙ ap (λ (c : ℕ). take n text ++ c ∷ drop (suc n) text) dash ∙ ap (λ (t : List ℕ). t ++ 45 ∷ drop (suc n) text) spelled

pub value_small : (least value : ℕ) (ds : List ℕ) → BeginsNumber least ds value → value < number_limit
value_small least value ds g = let is = g.is in let small = value-small ds g.are_digits g.few in omega (arith, is, small)

pub second_breaks : (least : ℕ) (text : List ℕ) (value n k : ℕ) → least ≤ 1 → IsNumberFront least text value n → 0 < n → n < length text → get_or text n 0 ≡ 45 → BreaksAt (HasNumber value) (drop (n + 1) text) k → BreaksAt (HasRange least) text (n + 1 + k)
second_breaks least text value n k one f some within dash b =
    let len = length-take-le n text f.within in
    let low = first_low least value (take n text) one f.goes_on (omega (arith, len)) in
    let small = value_small least value (take n text) f.goes_on in
    let cut = dash_cut least text value n f some within dash in
    let next : suc n ≡ n + 1 = omega arith in
    let behind : drop (suc n) text ≡ drop (n + 1) text = ap (λ (i : ℕ). drop i text) next in
    let number = goes_on-number least value (take n text) f.goes_on (omega (arith, len)) in
    let spelled : take n text ≡ decimal value = number_text (take n text) number ∙ ap decimal (sym f.goes_on.is) in
    let size : length (decimal value ++ 45 ∷ []) ≡ n + 1 = length-append (decimal value) (45 ∷ []) ∙ ap (λ (i : ℕ). i + 1) (ap (λ (t : List ℕ). length t) (sym spelled) ∙ len) in
    let at = breaks_after (HasRange least) (HasNumber value) (decimal value ++ 45 ∷ []) (drop (suc n) text) k
    (λ y h. subst (HasRange least) (sym (append_assoc (decimal value) (45 ∷ []) y)) (range_in least value y low small h))
    (λ y h. range_out least value y small (subst (HasRange least) (append_assoc (decimal value) (45 ∷ []) y) h))
    (subst (λ (t : List ℕ). BreaksAt (HasNumber value) t k) (sym behind) b) in
    subst (λ (t : List ℕ). BreaksAt (HasRange least) t (n + 1 + k)) (append_assoc (decimal value) (45 ∷ []) (drop (suc n) text) ∙ sym cut) (subst (λ (i : ℕ). BreaksAt (HasRange least) ((decimal value ++ 45 ∷ []) ++ drop (suc n) text) (i + k)) size at)

pub second_read : (least : ℕ) (text : List ℕ) (value n last : ℕ) → least ≤ 1 → IsNumberFront least text value n → 0 < n → n < length text → get_or text n 0 ≡ 45 → IsNumberText value (drop (n + 1) text) last → IsRange least value (Some last) × (text ≡ range_text value (Some last))
second_read least text value n last one f some within dash h =
    let len = length-take-le n text f.within in
    let low = first_low least value (take n text) one f.goes_on (omega (arith, len)) in
    let next : suc n ≡ n + 1 = omega arith in
    let behind : drop (suc n) text ≡ drop (n + 1) text = ap (λ (i : ℕ). drop i text) next in
    (record { low = low; small = value_small least value (take n text) f.goes_on; last = (h.low, h.small) }, dash_cut least text value n f some within dash ∙ ap (λ (t : List ℕ). decimal value ++ 45 ∷ t) (behind ∙ h.spelled))

pub first_read : (least : ℕ) (text : List ℕ) (value n : ℕ) → least ≤ 1 → IsNumberFront least text value n → 0 < n → n ≡ length text → IsRange least value None × (text ≡ range_text value None)
first_read least text value n one f some whole =
    let low = first_low least value (take n text) one f.goes_on (omega (arith, length-take-le n text f.within)) in
    let number = number_read least text value n f whole some low in
    (record { low = low; small = number.small; last = tt }, number.spelled)

small_below : (n : ℕ) → n < number_limit → n < 2 ^ 64
small_below n h = omega (arith, h)

-- each range has one text
pub one_range : (least first other : ℕ) (more rest : Option ℕ) → IsRange least first more → IsRange least other rest → range_text first more ≡ range_text other rest → (first ≡ other) × (more ≡ rest)
one_range least first other None None h k e = (decimal_injective first other (small_below first h.small) (small_below other k.small) e, refl)
one_range least first other None (Some last) h k e = absurd (digit-no_dash (decimal first) (decimal-digits first h.small) (subst (λ (t : List ℕ). Contains t 45) (sym e) (Contains-append_right (decimal other) (45 ∷ decimal last) 45 (0, omega arith, refl))))
one_range least first other (Some last) None h k e = absurd (digit-no_dash (decimal other) (decimal-digits other k.small) (subst (λ (t : List ℕ). Contains t 45) e (Contains-append_right (decimal first) (45 ∷ decimal last) 45 (0, omega arith, refl))))
one_range least first other (Some last) (Some end) h k e =
    let both = first_split 45 (decimal first) (decimal other) (decimal last) (decimal end) (digit-no_dash (decimal first) (decimal-digits first h.small)) (digit-no_dash (decimal other) (decimal-digits other k.small)) e in
    (decimal_injective first other (small_below first h.small) (small_below other k.small) both.0, ap Some (decimal_injective last end (small_below last h.last.1) (small_below end k.last.1) both.1))
