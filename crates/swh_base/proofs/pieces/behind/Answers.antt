use Rattle.std.proofs.Common.{◌≡◌, ℕ, ◌+◌, true, false, nat_eq, List, ◌++◌, length, take, drop, Option, Some, None, IfSome, IfNone, Bor, sym, ap, ◌∙◌}
use Rattle.std.specs.Prelude.{MatchOption}
use Rattle.std.specs.Cmp.Lexicographic.{pointwise, bytes_decides}
use Rattle.std.proofs.lemmas.List.{take-append-drop}
use Rattle.std.proofs.Math.Seq.{take-append_seam}
use Rattle.swh_base.proofs.pieces.behind.Goals as goal

abbrev Strips : List ℕ → List ℕ → Option (Bor (List ℕ)) → Type 0
Strips bytes front r =
    MatchOption r (pointwise nat_eq (take (length front) bytes) front ≡ false) (λ x. (pointwise nat_eq (take (length front) bytes) front ≡ true) × (x.now ≡ drop (length front) bytes) × (length x.now + length front ≡ length bytes))

stripped : (bytes front : List ℕ) (r : Option (Bor (List ℕ))) → Strips bytes front r → IfSome r (λ rest. bytes ≡ front ++ rest.now)
stripped bytes front None h = tt
stripped bytes front (Some x) h =
    sym (take-append-drop (length front) bytes) ∙ ap (λ (t : List ℕ). t ++ drop (length front) bytes) ((bytes_decides (take (length front) bytes) front).0 h.0) ∙ ap (λ (t : List ℕ). front ++ t) (sym h.1)

not_stripped : (bytes front : List ℕ) (r : Option (Bor (List ℕ))) → Strips bytes front r → IfNone r ((rest : List ℕ) → bytes ≡ front ++ rest → ⊥)
not_stripped bytes front None h = λ rest e.
    let same : take (length front) bytes ≡ front = ap (take (length front)) e ∙ take-append_seam front rest in
    let yes = (bytes_decides (take (length front) bytes) front).1 same in
    absurd cc
not_stripped bytes front (Some x) h = tt

pub returns-clause-some : goal.returns-clause-some
returns-clause-some c = stripped c.args.bytes.now c.args.front.now c.strip_prefix.result c.strip_prefix.ensures.cases

pub returns-clause-none : goal.returns-clause-none
returns-clause-none c = not_stripped c.args.bytes.now c.args.front.now c.strip_prefix.result c.strip_prefix.ensures.cases
