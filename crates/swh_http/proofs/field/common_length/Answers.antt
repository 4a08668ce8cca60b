use Rattle.std.proofs.Common.{◌≡◌, ℕ, List, length, map, subst, sym, ◌∙◌, arith, All}
use Rattle.std.specs.Borrow.{Bor}
use Rattle.std.proofs.lemmas.List.{length-map}
use Rattle.std.proofs.lemmas.List.Elements.{All-map, All-get_or}
use Rattle.swh_base.specs.Text.{IsNumber}
use Rattle.swh_http.proofs.Fields.{All-unmap}
use Rattle.swh_http.proofs.field.common_length.Goals as goal

pub returns-then-all_say-clause-some : goal.returns-then-all_say-clause-some
returns-then-all_say-clause-some c = record {
  each = All-map (λ (text : List ℕ). IsNumber text c.in_ok-length.length) (λ (v : Bor (List ℕ)). v.now) c.args.values.now (c.all_say.ensures.0 c.if-all_say.true);
  none = λ empty. absurd (omega (arith, empty, length-map c.args.values.now (λ (v : Bor (List ℕ)). v.now), c.in-Some.ensures.item.3.0));
}

pub returns-else-all_say-clause-none : goal.returns-else-all_say-clause-none
returns-else-all_say-clause-none c = λ n are.
    let P : Bor (List ℕ) → Type 0 = λ v. IsNumber v.now n in
    let each : All P c.args.values.now = All-unmap (λ (text : List ℕ). IsNumber text n) (λ (v : Bor (List ℕ)). v.now) c.args.values.now are.each in
    let first : IsNumber c.in-Some.first.now.now n =
    subst P (sym c.in-Some.ensures.item.1) (All-get_or P c.args.values.now 0 c.in-Some.first.now c.in-Some.ensures.item.3.0 each) in
    let same : n ≡ c.in_ok-length.length = first.value ∙ sym c.in_ok-length.ensures.some.value in
    let Q : ℕ → Type 0 = λ m. All (λ (v : Bor (List ℕ)). IsNumber v.now m) c.args.values.now in
    let said = c.all_say.ensures.1 (subst Q same each) in
    let no = c.if-all_say.false in
    cc
