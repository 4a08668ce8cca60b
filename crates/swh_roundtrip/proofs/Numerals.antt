-- A number that is written is read as itself.
use Rattle.std.proofs.Common.{◌≡◌, ℕ, zero, suc, ◌+◌, ◌-◌, ◌*◌, ◌/◌, ◌%◌, ◌^◌, ◌<◌, ◌≤◌, true, false, List, [], ◌∷◌, ◌++◌, refl, sym, ◌∙◌, arith, Contains}
use Rattle.std.specs.Prelude.{decimal}
use Rattle.std.specs.List.{AllPass, AllByRecursion}
use Rattle.std.proofs.lemmas.Fmt.{decimal_by_steps, length-decimal-le, decimal_nonempty}
use Rattle.swh_base.specs.Text.{is_digit, value_from, IsNumber}
use Rattle.swh_base.proofs.Lacks.{lacks}
use Rattle.swh_fastgrammar.specs.Word.{IsMark}

abbrev AreDigits : List ℕ → Type 0
AreDigits ds = AllByRecursion (λ (c : ℕ). is_digit c ≡ true) ds

record Writes (n : ℕ) (ds : List ℕ) : Type 0 where
  digits : AreDigits ds
  value : value_from 0 ds ≡ n

is_one : (d : ℕ) → d < 10 → is_digit (48 + d) ≡ true
is_one zero l = refl
is_one (suc zero) l = refl
is_one (suc (suc zero)) l = refl
is_one (suc (suc (suc zero))) l = refl
is_one (suc (suc (suc (suc zero)))) l = refl
is_one (suc (suc (suc (suc (suc zero))))) l = refl
is_one (suc (suc (suc (suc (suc (suc zero)))))) l = refl
is_one (suc (suc (suc (suc (suc (suc (suc zero))))))) l = refl
is_one (suc (suc (suc (suc (suc (suc (suc (suc zero)))))))) l = refl
is_one (suc (suc (suc (suc (suc (suc (suc (suc (suc zero))))))))) l = refl
is_one (suc (suc (suc (suc (suc (suc (suc (suc (suc (suc d)))))))))) l = absurd (omega arith)

digits-push : (ds : List ℕ) (d : ℕ) → AreDigits ds → is_digit d ≡ true → AreDigits (ds ++ d ∷ [])
digits-push [] d h k = (k, tt)
digits-push (c ∷ ds) d h k = (h.0, digits-push ds d h.1 k)

value-push : (high : ℕ) (ds : List ℕ) (d : ℕ) → value_from high (ds ++ d ∷ []) ≡ value_from high ds * 10 + (d - 48)
value-push high [] d = refl
value-push high (c ∷ ds) d = value-push (high * 10 + (c - 48)) ds d

written : (n : ℕ) → n < 2 ^ 64 → Writes n (decimal n)
written n small = decimal_by_steps Writes one more n small
  where
    one : (n : ℕ) → n < 10 → Writes n ((48 + n) ∷ [])
    one n l = record { digits = (is_one n l, tt); value = omega arith }

    more : (n : ℕ) (ds : List ℕ) → 10 ≤ n → Writes (n / 10) ds → Writes n (ds ++ (48 + n % 10) ∷ [])
    more n ds l w = record {
      digits = digits-push ds (48 + n % 10) w.digits (is_one (n % 10) (omega arith));
      value = let v = w.value in value-push 0 ds (48 + n % 10) ∙ omega (arith, v);
    }

all_digits : (ds : List ℕ) → AreDigits ds → AllPass is_digit ds
all_digits [] h k d l = absurd (omega (arith, l))
all_digits (c ∷ ds) h zero d l = h.0
all_digits (c ∷ ds) h (suc k) d l = all_digits ds h.1 k d (omega (arith, l))

pub number_again : (n : ℕ) → n < 10 ^ 18 → IsNumber (decimal n) n
number_again n small =
    let w = written n (omega arith) in
    record { some = decimal_nonempty n (omega arith); short = length-decimal-le 18 n (omega arith) small (omega arith); digits = all_digits (decimal n) w.digits; value = sym w.value }

pub mark_again : (n : ℕ) → 1 ≤ n → n < 10 ^ 18 → IsMark (decimal n) n
mark_again n some small = record { number = number_again n small; positive = some }

-- of digits no other byte is one
pub number-lacks : (text : List ℕ) (n c : ℕ) → is_digit c ≡ false → IsNumber text n → Contains text c → ⊥
number-lacks text n c no_digit h = lacks is_digit text c no_digit h.digits
