use Rattle.std.proofs.Common.{◌≡◌, [], List, inl, inr, true, false, sym, subst, take, get_or}
use Rattle.std.specs.Prelude.{Contains}
use Rattle.std.proofs.lemmas.List.{take_all}
use Rattle.std.proofs.lemmas.List.Elements.{Contains-push_cases}
use Rattle.swh_base.specs.declared.name.Name.{Name}
use Rattle.swh_base.specs.declared.kind.Kind.TheVariants.{Content}
use Rattle.swh_model.proofs.ListedWalks.{item_is}
use Rattle.swh_model.proofs.PlainLists.{take-more}
use Rattle.swh_model.proofs.names.has_name.Goals as goal

pub loop-other-preserved : goal.loop-other-preserved
loop-other-preserved c there =
    let none : Name = record { kind = Content; id = [] } in
    let names = c.args.names.now in
    let i = c.loop-other.other-index in
    let other = get_or names i none in
    let cut = take-more names i other c.loop-other-test.true (item_is names i none other c.loop-other-test.true) in
    elim (Contains-push_cases (take i names) other c.args.name.now (subst (λ (ns : List Name). Contains ns c.args.name.now) cut there)) [
      | inl old ↦ c.loop-other.invariant old
      | inr same ↦ let f : false ≡ true = c.if-is_same_name.ensures.1 same in cc
    ]

pub returns : goal.returns
returns c = (
  λ t. let f : false ≡ true = t in absurd (cc),
  λ there. absurd (c.loop-other.invariant (subst (λ (ns : List Name). Contains ns c.args.name.now) (sym (take_all c.loop-other.other-index c.args.names.now c.loop-other-test.false)) there)),
)
