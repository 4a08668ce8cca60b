-- A line is `feature done` exactly where each of the two begins with the other.
use Rattle.std.proofs.Common.{◌≡◌, ℕ, Bool, true, false, nat_eq, List, [], ◌++◌, length, length-append, drop, refl, sym, ap, ◌∙◌, subst, arith, codes}
use Rattle.std.specs.List.{starts_with}
use Rattle.std.proofs.lemmas.Bool.{and_parts}
use Rattle.std.proofs.lemmas.Bool.Decides.{Decides-eqb}
use Rattle.std.proofs.lemmas.Slice.Eq.{starts_is}
use Rattle.swh_base.proofs.Splits.{sized_split}
use Rattle.swh_fastgrammar.specs.Fault.{is_promise_line}

abbrev promise : List ℕ
promise = codes "feature done"

both : (line : List ℕ) → starts_with nat_eq line promise ≡ true → starts_with nat_eq promise line ≡ true → line ≡ promise
both line a b =
    let longer : line ≡ promise ++ drop 12 line = (starts_is Decides-eqb line promise (starts_with nat_eq line promise) refl).0 a in
    let shorter : promise ≡ line ++ drop (length line) promise = (starts_is Decides-eqb promise line (starts_with nat_eq promise line) refl).0 b in
    let x = ap length longer ∙ length-append promise (drop 12 line) in
    let y = ap length shorter ∙ length-append line (drop (length line) promise) in
    (sized_split line promise (drop (length line) promise) [] (omega (arith, x, y)) (sym shorter)).0

told : (line : List ℕ) (b p : Bool) → is_promise_line line ≡ p → (b ≡ true → line ≡ promise) → (line ≡ promise → b ≡ true) → b ≡ p
told line true true e up down = refl
told line false false e up down = refl
told line true false e up down = let yes : is_promise_line line ≡ true = subst (λ (t : List ℕ). is_promise_line t ≡ true) (sym (up refl)) refl in absurd cc
told line false true e up down =
    let parts = and_parts (starts_with nat_eq line promise) (starts_with nat_eq promise line) e in
    let yes = down (both line parts.0 parts.1) in absurd cc

pub is_promise : (line : List ℕ) (b : Bool) → (b ≡ true → line ≡ promise) → (line ≡ promise → b ≡ true) → b ≡ is_promise_line line
is_promise line b up down = told line b (is_promise_line line) refl up down
