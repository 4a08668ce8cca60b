use Rattle.std.proofs.Common.{◌≡◌, ◌+◌, ◌-◌, true, false, List, [], ◌∷◌, ◌++◌, length, get_or, take, drop, sym, ap, ◌∙◌, subst, arith, length-drop, drop-cons, add-one}
use Rattle.std.specs.Prelude.{Contains}
use Rattle.std.proofs.lemmas.List.{take-append-drop, take_all}
use Rattle.swh_base.specs.declared.kind.Kind.TheVariants.{Content}
use Rattle.swh_base.specs.declared.name.Name.{Name}
use Rattle.swh_postorder.proofs.walking.first_fresh.Goals as goal

pub returns-then-not-was_entered-clause-some : goal.returns-then-not-was_entered-clause-some
returns-then-not-was_entered-clause-some c =
    let none : Name = record { kind = Content; id = [] } in
    let names = c.args.names.now in
    let place = c.loop-place.place in
    let within = c.loop-place-test.true in
    let rest : take (length names - (place + 1)) (drop (place + 1) names) ≡ drop (place + 1) names =
    take_all (length names - (place + 1)) (drop (place + 1) names) (omega (arith, length-drop (place + 1) names)) in
    let one : drop place names ≡ get_or names place none ∷ drop (place + 1) names = rw (add-one, drop-cons names place none) in
    record {
      front = take place names;
      cut = sym (take-append-drop place names) ∙ ap (λ (l : List Name). take place names ++ l) (one ∙ ap (λ (l : List Name). get_or names place none ∷ l) (sym rest));
      known = c.loop-place.invariant;
      fresh = λ there. let e : false ≡ true = sym c.if-not-was_entered.true ∙ c.was_entered.ensures.1 there in cc;
    }

pub returns-clause-none : goal.returns-clause-none
returns-clause-none c =
    λ n there. c.loop-place.invariant n (subst (λ (names : List Name). Contains names n) (sym (take_all c.loop-place.place c.args.names.now c.loop-place-test.false)) there)
