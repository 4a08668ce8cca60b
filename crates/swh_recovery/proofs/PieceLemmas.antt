-- What is taken from a piece, and what is read behind a front.
use Rattle.std.proofs.Common.{◌≡◌, ℕ, ◌+◌, ◌-◌, ◌<◌, ◌≤◌, List, ◌++◌, length, take, drop, sym, ap, ◌∙◌, inl, inr, arith, length-drop}
use Rattle.std.proofs.lemmas.List.{take-take, length-take-le, length-take, drop-take, drop-drop, take_rest, take_all}
use Rattle.std.proofs.Math.Nat.{eq-or-lt_of_le}
use Rattle.std.proofs.Math.Seq.{take-add, take-append-add}
use Rattle.swh_segment.specs.Reading.{IsFilled}
use Rattle.swh_recovery.specs.Reading.{window}

pub held_is : (seen bytes : List ℕ) (begin at c : ℕ) → begin ≤ at → at - begin < length bytes → c ≤ length bytes - (at - begin) → bytes ≡ window seen begin (length bytes)
    → take c (take (length bytes - (at - begin)) (drop (at - begin) bytes)) ≡ window seen at (length (take c (take (length bytes - (at - begin)) (drop (at - begin) bytes))))
held_is seen bytes begin at c le less few is =
    let from = at - begin in
    let left = length bytes - from in
    let size : length bytes ≡ from + left = omega (arith, less) in
    let place : begin + from ≡ at = omega (arith, le) in
    let behind : drop from bytes ≡ take left (drop at seen) =
    ap (drop from) (is ∙ ap (λ (n : ℕ). take n (drop begin seen)) size) ∙ drop-take from left (drop begin seen) ∙ ap (λ (l : List ℕ). take left l) (drop-drop from begin seen ∙ ap (λ (n : ℕ). drop n seen) place) in
    let all : take left (drop from bytes) ≡ take left (drop at seen) = take_rest bytes from ∙ behind in
    let taken : take c (take left (drop from bytes)) ≡ take c (drop at seen) = ap (λ (l : List ℕ). take c l) all ∙ take-take c left (drop at seen) few in
    let room : length (take left (drop from bytes)) ≡ left = ap length (take_rest bytes from) ∙ length-drop from bytes in
    let count : length (take c (take left (drop from bytes))) ≡ c = length-take-le c (take left (drop from bytes)) (omega (arith, room, few)) in
    taken ∙ ap (λ (n : ℕ). take n (drop at seen)) (sym count)

pub read_is : (seen front out : List ℕ) (at count more : ℕ) → length front ≤ count → front ≡ window seen at (length front) → IsFilled seen (at + length front) out more → more ≤ length out → length out ≡ count - length front
    → take (length front + more) (front ++ out) ≡ window seen at count
read_is seen front out at count more le is filled bound sized =
    let begun = length front in
    let both : take (begun + more) (front ++ out) ≡ take (begun + more) (drop at seen) =
    take-append-add front out more ∙ (λ i. is i ++ filled.bytes i) ∙ ap (λ (l : List ℕ). take begun (drop at seen) ++ take more l) (sym (drop-drop begun at seen)) ∙ sym (take-add begun more (drop at seen)) in
    let there : begun ≡ length (take begun (drop at seen)) = ap length is in
    let size = length-drop at seen in
    let taken = length-take begun (drop at seen) in
    both
    ∙ elim (eq-or-lt_of_le bound) [
      | inl e ↦ ap (λ (n : ℕ). take n (drop at seen)) (let z : begun + more ≡ count = omega (arith, e, sized, le) in z)
      | inr lt ↦
          (let end = filled.full lt in
          take_all (begun + more) (drop at seen) (omega (arith, end, size, there, taken)) ∙ sym (take_all count (drop at seen) (omega (arith, end, size, there, taken, lt, sized, le))))
    ]
