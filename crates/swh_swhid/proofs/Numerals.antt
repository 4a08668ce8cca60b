-- Decimal digits: their value, how they go on, and the numbers that they begin.
use Rattle.std.proofs.Common.{◌≡◌, ℕ, zero, suc, ◌+◌, ◌-◌, ◌*◌, ◌/◌, ◌^◌, ◌<◌, ◌≤◌, inl, inr, List, [], ◌∷◌, ◌++◌, length, get_or, decimal, rules, refl, sym, ap, ◌∙◌, subst, arith, length-append}
use Rattle.std.specs.List.{AllByRecursion}
use Rattle.std.proofs.lemmas.List.{append-nil}
use Rattle.std.proofs.Math.Nat.{pow-suc, pow-le-pow_right, mul-le-mul_left, mul-le-mul_right, mul_assoc, one-le-pow, div-lt_iff_lt-mul}
use Rattle.std.proofs.lemmas.Bool.{cases_lt}
use Rattle.std.proofs.lemmas.Str.Parse.{IsNumeralModel, numerals_by_fold, digits_value_short}
use Rattle.std.proofs.lemmas.Fmt.{decimal-digits_value, digits_decimal, digits_value-decimal, length-decimal-le, first_decimal, decimal_nonempty, decimal_digit}
use Rattle.swh_swhid.specs.Number.{number_limit, IsNumberText, HasNumber, IsDigit, read_on, BeginsNumber, MayTakeDigit}

abbrev pub AreDigits : List ℕ → Type 0
AreDigits ds = AllByRecursion IsDigit ds

own : IsNumeralModel AreDigits (read_on 0)
own = numerals_by_fold AreDigits (search rules) read_on (search rules)

digits-behind : (xs ys : List ℕ) → AreDigits (xs ++ ys) → AreDigits ys
digits-behind [] ys h = h
digits-behind (x ∷ xs) ys h = digits-behind xs ys h.1

digits-append : (xs ys : List ℕ) → AreDigits xs → AreDigits ys → AreDigits (xs ++ ys)
digits-append [] ys h k = k
digits-append (x ∷ xs) ys h k = (h.0, digits-append xs ys h.1 k)

read_on-append : (n : ℕ) (xs ys : List ℕ) → read_on n (xs ++ ys) ≡ read_on (read_on n xs) ys
read_on-append n [] ys = refl
read_on-append n (x ∷ xs) ys = read_on-append (n * 10 + (x - 48)) xs ys

-- digits never lower the number
read_on-low : (n : ℕ) (ds : List ℕ) → n ≤ read_on n ds
read_on-low n [] = omega arith
read_on-low n (c ∷ ds) = let on = read_on-low (n * 10 + (c - 48)) ds in omega (arith, on)

-- (n + 1) * 10 ^ (k + 1), by a digit more
room_more : (n k : ℕ) → (n * 10 + 10) * 10 ^ k ≡ (n + 1) * 10 ^ suc k
room_more n k =
    let ten : n * 10 + 10 ≡ (n + 1) * 10 = omega arith in
    let swap : 10 ^ suc k ≡ 10 * 10 ^ k = pow-suc 10 k ∙ omega arith in
    ap (λ (t : ℕ). t * 10 ^ k) ten ∙ mul_assoc (n + 1) 10 (10 ^ k) ∙ ap (λ (t : ℕ). (n + 1) * t) (sym swap)

-- digits raise it to less than the next number of that many digits
read_on-high : (n : ℕ) (ds : List ℕ) → AreDigits ds → read_on n ds < (n + 1) * 10 ^ length ds
read_on-high n [] h = let one : 10 ^ 0 ≡ 1 = refl in rw one (omega arith)
read_on-high n (c ∷ ds) h =
    let digit = h.0 in
    let on = read_on-high (n * 10 + (c - 48)) ds h.1 in
    let bound : n * 10 + (c - 48) + 1 ≤ n * 10 + 10 = omega (arith, digit) in
    let le : (n * 10 + (c - 48) + 1) * 10 ^ length ds ≤ (n * 10 + 10) * 10 ^ length ds = mul-le-mul_right (10 ^ length ds) bound in
    let more = room_more n (length ds) in
    omega (arith, on, le, more)

abbrev nines : ℕ → List ℕ
nines zero = []
nines (suc k) = 57 ∷ nines k

nines-digits : (k : ℕ) → AreDigits (nines k)
nines-digits zero = tt
nines-digits (suc k) = ((omega arith, omega arith), nines-digits k)

length-nines : (k : ℕ) → length (nines k) ≡ k
length-nines zero = refl
length-nines (suc k) = ap suc (length-nines k)

-- nines raise it as far as digits can
read_on-nines : (n k : ℕ) → read_on n (nines k) + 1 ≡ (n + 1) * 10 ^ k
read_on-nines n zero = let one : 10 ^ 0 ≡ 1 = refl in rw one (omega arith)
read_on-nines n (suc k) =
    let nine : n * 10 + (57 - 48) + 1 ≡ n * 10 + 10 = omega arith in
    read_on-nines (n * 10 + (57 - 48)) k ∙ ap (λ (t : ℕ). t * 10 ^ k) nine ∙ room_more n k

-- Digits that are a number: some of them, and no zero in front of others.
pub record AreNumber (ds : List ℕ) : Type 0 where
  pub are_digits : AreDigits ds
  pub some : 0 < length ds
  pub few : length ds ≤ 18
  pub no_zero : get_or ds 0 0 ≡ 48 → length ds ≡ 1

pub value-small : (ds : List ℕ) → AreDigits ds → length ds ≤ 18 → read_on 0 ds < number_limit
value-small ds h few = digits_value_short own ds 18 h few

-- such digits are the text of their value
pub number_text : (ds : List ℕ) → AreNumber ds → ds ≡ decimal (read_on 0 ds)
number_text ds h =
    let small = value-small ds h.are_digits h.few in
    sym (decimal-digits_value own ds h.are_digits h.some h.no_zero (omega (arith, small)))

-- and the text of a number is such digits
pub text_number : (n : ℕ) → n < number_limit → AreNumber (decimal n) × (read_on 0 (decimal n) ≡ n)
text_number n small =
    let below : n < 2 ^ 64 = omega (arith, small) in (
      record {
        are_digits = digits_decimal own n below;
        some = decimal_nonempty n below;
        few = length-decimal-le 18 n (omega arith) small below;
        no_zero = λ e. elim (cases_lt 0 n) [
          | inl above ↦ let first = first_decimal n above below in absurd (omega (arith, e, first))
          | inr none ↦ let is : n ≡ 0 = omega arith in ap (λ (k : ℕ). length (decimal k)) is ∙ ap (λ (t : List ℕ). length t) (decimal_digit 0 (omega arith))
        ];
      },
      digits_value-decimal own n below,
    )

-- the number that digits of at least this value are
pub is_number : (least : ℕ) (ds : List ℕ) → AreNumber ds → least ≤ read_on 0 ds → IsNumberText least ds (read_on 0 ds)
is_number least ds h low = record { low = low; small = value-small ds h.are_digits h.few; spelled = number_text ds h }

-- the digits of a number's text
pub number_digits : (least : ℕ) (ds : List ℕ) → HasNumber least ds → AreNumber ds × (least ≤ read_on 0 ds)
number_digits least ds h =
    let both = text_number h.number h.is.small in
    let low = h.is.low in
    let value : read_on 0 ds ≡ h.number = ap (read_on 0) h.is.spelled ∙ both.1 in
    (subst AreNumber (sym h.is.spelled) both.0, omega (arith, low, value))

pub zero_head : (d : ℕ) (ds : List ℕ) → IsDigit d → read_on 0 (d ∷ ds) ≡ 0 → d ≡ 48
zero_head d ds h e = let low = read_on-low (0 * 10 + (d - 48)) ds in omega (arith, h, low, e)

no_zero_more : (ds : List ℕ) (c : ℕ) (x : List ℕ) → AreNumber (ds ++ c ∷ x) → 0 < length ds → read_on 0 ds ≡ 0 → ⊥
no_zero_more [] c x h some e = omega arith
no_zero_more (d ∷ ds) c x h some e =
    let one = h.no_zero (zero_head d ds h.are_digits.0 e) in
    omega (arith, one, length-append ds (c ∷ x))

only_zero_at : (least : ℕ) (ds : List ℕ) (c : ℕ) (x : List ℕ) → AreNumber (ds ++ c ∷ x) → least ≤ read_on 0 (ds ++ c ∷ x) → length ds ≡ 0 → c ≡ 48 → least ≡ 0
only_zero_at least (d ∷ ds) c x h low none e = absurd (omega arith)
only_zero_at least [] c (a ∷ x) h low none e = let one = h.no_zero e in absurd (omega (arith, one))
only_zero_at least [] c [] h low none e = omega (arith, low, e)

-- Digits that begin a number of at least `least` and a byte more: the byte may follow.
pub follows : (least value : ℕ) (ds : List ℕ) (c : ℕ) (x : List ℕ) → BeginsNumber least ds value → AreNumber (ds ++ c ∷ x) → least ≤ read_on 0 (ds ++ c ∷ x) → MayTakeDigit least value (length ds) c
follows least value ds c x g h low =
    let behind = digits-behind ds (c ∷ x) h.are_digits in
    let digit = behind.0 in
    let len = length-append ds (c ∷ x) in
    let few = h.few in
    let is = g.is in
    let on : read_on 0 (ds ++ c ∷ x) ≡ read_on value (c ∷ x) = read_on-append 0 ds (c ∷ x) ∙ ap (λ (n : ℕ). read_on n (c ∷ x)) (sym is) in
    let high = read_on-high (value * 10 + (c - 48)) x behind.1 in
    let fits : length x ≤ 17 - length ds = omega (arith, len, few) in
    let wider : 10 ^ length x ≤ 10 ^ (17 - length ds) = pow-le-pow_right (omega arith) fits in
    let widest = mul-le-mul_left (value * 10 + (c - 48) + 1) wider in
    record {
      digit = digit;
      room = omega (arith, len, few);
      zeros = (
        λ some. elim (cases_lt 0 value) [
          | inl above ↦ above
          | inr none ↦ absurd (no_zero_more ds c x h some (omega (arith, none, is)))
        ],
        λ none e. only_zero_at least ds c x h low none e,
      );
      enough = omega (arith, low, on, high, widest);
    }

-- a zero that stands alone is 0
zero_alone : (d : ℕ) (ds : List ℕ) (value : ℕ) → d ≡ 48 → length (d ∷ ds) ≡ 1 → value ≡ read_on 0 (d ∷ ds) → 0 < value → ⊥
zero_alone d [] value e one is above = omega (arith, e, is)
zero_alone d (c ∷ ds) value e one is above = omega arith

-- What goes on to a number of at least `least`: the rest of one.
pub record Completes (least : ℕ) (ds : List ℕ) : Type 0 where
  pub more : List ℕ
  pub number : HasNumber least (ds ++ more)

has_number : (least : ℕ) (ds : List ℕ) → AreNumber ds → least ≤ read_on 0 ds → HasNumber least ds
has_number least ds h low = record { number = read_on 0 ds; is = is_number least ds h low }

complete_zero : (least : ℕ) (d : ℕ) (ds : List ℕ) → BeginsNumber least (d ∷ ds) 0 → Completes least (d ∷ ds)
complete_zero least d ds g =
    let head = zero_head d ds g.are_digits.0 (sym g.is) in
    let whole : AreNumber (d ∷ ds) = record { are_digits = g.are_digits; some = omega arith; few = g.few; no_zero = g.no_zero } in
    let none = g.only_zero head in
    record { more = []; number = subst (HasNumber least) (sym (append-nil (d ∷ ds))) (has_number least (d ∷ ds) whole (omega (arith, none))) }

complete_above : (least value : ℕ) (d : ℕ) (ds : List ℕ) → 0 < value → BeginsNumber least (d ∷ ds) value → Completes least (d ∷ ds)
complete_above least value d ds above g =
    let k : ℕ = 18 - length (d ∷ ds) in
    let few = g.few in
    let len = length-append (d ∷ ds) (nines k) in
    let is = g.is in
    let whole : AreNumber ((d ∷ ds) ++ nines k) = record {
      are_digits = digits-append (d ∷ ds) (nines k) g.are_digits (nines-digits k);
      some = omega arith;
      few = omega (arith, len, length-nines k, few);
      no_zero = λ e. absurd (zero_alone d ds value e (g.no_zero e) is above);
    } in
    let on : read_on 0 ((d ∷ ds) ++ nines k) ≡ read_on value (nines k) = read_on-append 0 (d ∷ ds) (nines k) ∙ ap (λ (n : ℕ). read_on n (nines k)) (sym is) in
    let top = read_on-nines value k in
    let enough = g.enough in
    record { more = nines k; number = has_number least ((d ∷ ds) ++ nines k) whole (omega (arith, on, top, enough)) }

pub completes : (least value : ℕ) (ds : List ℕ) → least < number_limit → BeginsNumber least ds value → Completes least ds
completes least value [] small g = record { more = decimal least; number = record { number = least; is = record { low = omega arith; small = small; spelled = refl } } }
completes least zero (d ∷ ds) small g = complete_zero least d ds g
completes least (suc value) (d ∷ ds) small g = complete_above least (suc value) d ds (omega arith) g

-- one digit more
pub goes_on-more : (least value : ℕ) (ds : List ℕ) (c : ℕ) → BeginsNumber least ds value → MayTakeDigit least value (length ds) c → BeginsNumber least (ds ++ c ∷ []) (value * 10 + (c - 48))
goes_on-more least value [] c g m =
    let is = g.is in
    record {
      are_digits = (m.digit, tt);
      few = omega arith;
      no_zero = λ e. refl;
      only_zero = λ e. m.zeros.1 refl e;
      is = omega (arith, is);
      enough = m.enough;
    }
goes_on-more least value (d ∷ ds) c g m =
    let room = m.room in
    let len = length-append (d ∷ ds) (c ∷ []) in
    let left : 18 - length ((d ∷ ds) ++ c ∷ []) ≡ 17 - length (d ∷ ds) = omega (arith, len, room) in
    record {
      are_digits = digits-append (d ∷ ds) (c ∷ []) g.are_digits (m.digit, tt);
      few = omega (arith, len, room);
      no_zero = λ e. absurd (zero_alone d ds value e (g.no_zero e) g.is (m.zeros.0 (omega arith)));
      only_zero = λ e. g.only_zero e;
      is = ap (λ (n : ℕ). n * 10 + (c - 48)) g.is ∙ sym (read_on-append 0 (d ∷ ds) (c ∷ []));
      enough = subst (λ (k : ℕ). least < (value * 10 + (c - 48) + 1) * 10 ^ k) (sym left) m.enough;
    }

pub goes_on-none : (least : ℕ) → least < number_limit → BeginsNumber least [] 0
goes_on-none least small = record {
  are_digits = tt;
  few = omega arith;
  no_zero = λ e. absurd (omega (arith, e));
  only_zero = λ e. absurd (omega (arith, e));
  is = refl;
  enough = omega (arith, small);
}

pub goes_on-small : (least value : ℕ) (ds : List ℕ) → BeginsNumber least ds value → value < 10 ^ length ds
goes_on-small least value ds g = let is = g.is in let high = read_on-high 0 ds g.are_digits in omega (arith, is, high)

-- the place value of the digits that are left
pub ten-small : (k : ℕ) → k ≤ 17 → 10 ^ k ≤ 10 ^ 17
ten-small k h = pow-le-pow_right (omega arith) h

pub ten-above : (k : ℕ) → 0 < 10 ^ k
ten-above k = one-le-pow k 10 (omega arith)

-- whether the digits that are left reach a number
pub reach : (least value unit : ℕ) → 0 < unit → (least / unit ≤ value → least < (value + 1) * unit) × (least < (value + 1) * unit → least / unit ≤ value)
reach least value unit above =
    let both = div-lt_iff_lt-mul {k = unit} {x = least} {y = value + 1} above in
    (λ le. both.0 (omega arith), λ lt. let less = both.1 lt in omega (arith, less))
