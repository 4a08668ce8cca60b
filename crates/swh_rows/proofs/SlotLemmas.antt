-- What slots tell of names, as free ones are taken.
use Rattle.std.proofs.Common.{◌≡◌, ◌⊎◌, inl, inr, ℕ, zero, suc, ◌+◌, ◌%◌, ◌<◌, List, [], ◌∷◌, length, refl, sym, ap, ◌∙◌, arith}
use Rattle.swh_base.specs.declared.name.Name.{Name}
use Rattle.swh_rows.specs.Rows.{StandsAt}
use Rattle.swh_rows.specs.Slots.{number_of, slot_of, mark_at, mark_behind, NoneLeads, AreTaken, IsNowhere, IsLedFirst, MarksStay}

pub three_ways : (a b : ℕ) → (a < b) ⊎ ((b < a) ⊎ (a ≡ b))
three_ways zero zero = inr (inr refl)
three_ways zero (suc b) = inl (omega arith)
three_ways (suc a) zero = inr (inl (omega arith))
three_ways (suc a) (suc b) = by_rest (three_ways a b)
  where
    by_rest : (a < b) ⊎ ((b < a) ⊎ (a ≡ b)) → (suc a < suc b) ⊎ ((suc b < suc a) ⊎ (suc a ≡ suc b))
    by_rest (inl less) = inl (omega (arith, less))
    by_rest (inr (inl more)) = inr (inl (omega (arith, more)))
    by_rest (inr (inr same)) = inr (inr (ap suc same))

-- ---- slots that lead where they led

slot-same : (old new : List ℕ) (n : Name) → length new ≡ length old → slot_of new n ≡ slot_of old n
slot-same [] [] n many = refl
slot-same [] (mark ∷ new) n many = absurd (omega (arith, many))
slot-same (mark ∷ old) [] n many = absurd (omega (arith, many))
slot-same (mark ∷ old) (other ∷ new) n many = ap (λ (count : ℕ). number_of n % count) many

pub behind-same : (old new : List ℕ) (n : Name) (step : ℕ) → length new ≡ length old → mark_behind new n step ≡ mark_at new (slot_of old n + step)
behind-same old new n step many = ap (λ (slot : ℕ). mark_at new (slot + step)) (slot-same old new n many)

mark-stays : (old new : List ℕ) (n : Name) (step place : ℕ) → MarksStay old new → mark_behind old n step ≡ suc place → mark_behind new n step ≡ suc place
mark-stays old new n step place stay led = behind-same old new n step stay.many ∙ stay.each (slot_of old n + step) place led

stays_free : (old new : List ℕ) (n : Name) (step : ℕ) → MarksStay old new → mark_behind new n step ≡ 0 → mark_behind old n step ≡ 0
stays_free old new n step stay free = by_mark (mark_behind old n step) refl
  where
    by_mark : (mark : ℕ) → mark_behind old n step ≡ mark → mark_behind old n step ≡ 0
    by_mark zero is = is
    by_mark (suc place) is = absurd (let led = mark-stays old new n step place stay is in let never : 0 ≡ suc place = sym free ∙ led in cc)

pub stay_twice : (a b c : List ℕ) → MarksStay a b → MarksStay b c → MarksStay a c
stay_twice a b c first second = record { many = second.many ∙ first.many; each = λ slot place led. second.each slot place (first.each slot place led) }

-- slots that were taken are taken still
pub taken-stay : (old new : List ℕ) (n : Name) (count : ℕ) → MarksStay old new → AreTaken old n count → AreTaken new n count
taken-stay old new n count stay taken step less free = taken step less (stays_free old new n step stay free)

pub taken-next : (slots : List ℕ) (n : Name) (count : ℕ) → AreTaken slots n count → (mark_behind slots n count ≡ 0 → ⊥) → AreTaken slots n (count + 1)
taken-next slots n count taken last step less free = by_order (three_ways step count)
  where
    by_order : (step < count) ⊎ ((count < step) ⊎ (step ≡ count)) → ⊥
    by_order (inl before) = taken step before free
    by_order (inr (inl behind)) = omega (arith, less, behind)
    by_order (inr (inr same)) = last (ap (mark_behind slots n) (sym same) ∙ free)

pub none-next : (slots : List ℕ) (names : List Name) (n : Name) (count : ℕ) → NoneLeads slots names n count → ((place : ℕ) → mark_behind slots n count ≡ suc place → StandsAt names n place → ⊥) → NoneLeads slots names n (count + 1)
none-next slots names n count none last step less place led there = by_order (three_ways step count)
  where
    by_order : (step < count) ⊎ ((count < step) ⊎ (step ≡ count)) → ⊥
    by_order (inl before) = none step before place led there
    by_order (inr (inl behind)) = omega (arith, less, behind)
    by_order (inr (inr same)) = last place (ap (mark_behind slots n) (sym same) ∙ led) there

pub led-stays : (old new : List ℕ) (n : Name) (place : ℕ) → MarksStay old new → IsLedFirst old n place → IsLedFirst new n place
led-stays old new n place stay led = (led.0, led.1, mark-stays old new n led.0 place stay led.2, taken-stay old new n led.0 stay led.3)

-- ---- a name that is led to its row

-- it is not told to stand nowhere
pub led-somewhere : (slots : List ℕ) (names : List Name) (n : Name) (place : ℕ) → IsLedFirst slots n place → StandsAt names n place → IsNowhere slots names n → ⊥
led-somewhere slots names n place led there nowhere = by_order (three_ways nowhere.0 led.0)
  where
    by_order : (nowhere.0 < led.0) ⊎ ((led.0 < nowhere.0) ⊎ (nowhere.0 ≡ led.0)) → ⊥
    by_order (inl before) = led.3 nowhere.0 before nowhere.2
    by_order (inr (inl behind)) = nowhere.3 led.0 behind place led.2 there
    by_order (inr (inr same)) =
        let leads = led.2 in
        let free = ap (mark_behind slots n) (sym same) ∙ nowhere.2 in
        let never : 0 ≡ suc place = sym free ∙ leads in
        cc

-- one of its slots leads there
pub led-by-one : (slots : List ℕ) (names : List Name) (n : Name) (place : ℕ) → IsLedFirst slots n place → StandsAt names n place → NoneLeads slots names n 4 → ⊥
led-by-one slots names n place led there none = none led.0 led.1 place led.2 there
