use Rattle.std.proofs.Common.{inl, inr, List, [], get_or, take, subst}
use Rattle.std.specs.Prelude.{Contains}
use Rattle.std.proofs.lemmas.List.{take_more}
use Rattle.std.proofs.lemmas.List.Elements.{Contains-push_cases}
use Rattle.swh_base.specs.declared.kind.Kind.TheVariants.{Content}
use Rattle.swh_base.specs.declared.name.Name.{Name}
use Rattle.swh_postorder.proofs.cycles.are_seen.Goals as goal

abbrev none : Name
none = record { kind = Content; id = [] }

pub loop-kid-preserved : goal.loop-kid-preserved
loop-kid-preserved c = λ n there.
    let i = c.loop-kid.kid-index in
    let kids = c.args.kids.now in
    elim (Contains-push_cases (take i kids) (get_or kids i none) n (subst (λ (l : List Name). Contains l n) (take_more kids i none c.loop-kid-test.true) there)) [
      | inl was ↦ c.loop-kid.invariant n was
      | inr same ↦ subst (Contains c.args.before.now) same (c.lead.ensures.there c.if-not-lead.false)
    ]
