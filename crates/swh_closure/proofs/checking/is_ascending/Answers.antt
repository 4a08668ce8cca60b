use Rattle.std.proofs.Common.{◌≡◌, ℕ, ◌+◌, ◌-◌, true, false, arith, [], get_or, refl, sym, ap, ◌∙◌}
use Rattle.std.specs.Ordering.{is_lt}
use Rattle.swh_base.specs.declared.kind.Kind.TheVariants.{Content}
use Rattle.swh_base.specs.declared.name.Name.{Name}
use Rattle.swh_base.specs.Name.{name_cmp}
use Rattle.swh_closure.proofs.Order.{sorted_more}
use Rattle.swh_closure.proofs.checking.is_ascending.Goals as goal

pub returns : goal.returns
returns c = (λ _ k d low less. c.loop-place.invariant k d low (let end = c.loop-place-test.false in omega arith), λ _. refl)

pub returns-then-is_before : goal.returns-then-is_before
returns-then-is_before c =
    let names = c.args.names.now in
    let none : Name = record { kind = Content; id = [] } in
    let place = c.loop-place.place in
    let some = c.loop-place.auto.place in
    let within = c.loop-place-test.true in
    let next : place - 1 + 1 ≡ place = omega (arith, some) in
    let given : is_lt (name_cmp (get_or names place none) (get_or names (place - 1) none)) ≡ true = sym c.is_before.ensures ∙ c.if-is_before.true in (
      λ yes. let e : false ≡ true = yes in absurd (cc),
      λ up.
          let not_before : is_lt (name_cmp (get_or names (place - 1 + 1) none) (get_or names (place - 1) none)) ≡ false = up (place - 1) none (omega arith) (omega (arith, within, next)) in
          sym (ap (λ (i : ℕ). is_lt (name_cmp (get_or names i none) (get_or names (place - 1) none))) (sym next) ∙ not_before) ∙ given,
    )

pub loop-place-preserved : goal.loop-place-preserved
loop-place-preserved c =
    let none : Name = record { kind = Content; id = [] } in
    let given : is_lt (name_cmp (get_or c.args.names.now c.loop-place.place none) (get_or c.args.names.now (c.loop-place.place - 1) none)) ≡ false = sym c.is_before.ensures ∙ c.if-is_before.false in
    sorted_more c.args.names.now none c.loop-place.place c.loop-place.auto.place c.loop-place-test.true c.loop-place.invariant given
