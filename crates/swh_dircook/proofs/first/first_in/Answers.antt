use Rattle.std.proofs.Common.{[], sym, subst, get_or, List}
use Rattle.std.specs.Prelude.{Contains}
use Rattle.std.proofs.lemmas.List.{take_all}
use Rattle.swh_base.specs.declared.kind.Kind.TheVariants.{Content}
use Rattle.swh_base.specs.declared.name.Name.{Name}
use Rattle.swh_dircook.specs.Rules.{BreaksIn}
use Rattle.swh_dircook.proofs.Rules.{breaks_first, breaks_none, first_here, none_more}
use Rattle.swh_dircook.proofs.first.first_in.Goals as goal

abbrev none : Name
none = record { kind = Content; id = [] }

pub returns-in-Some-clause-some : goal.returns-in-Some-clause-some
returns-in-Some-clause-some g c =
    let bodies = (g.L.Look.archive c.args.look.now).bodies in
    first_here (BreaksIn bodies c.args.root ⊥) c.args.names.now c.loop-name.name-index none c.loop-name-test.true c.loop-name.invariant c.in-Some.why
    (breaks_first bodies c.args.root (get_or c.args.names.now c.loop-name.name-index none) c.in-Some.why (rw c.in-Some.is at c.in_ok-why.ensures))

pub loop-name-preserved : goal.loop-name-preserved
loop-name-preserved g c =
    let bodies = (g.L.Look.archive c.args.look.now).bodies in
    none_more (BreaksIn bodies c.args.root ⊥) c.args.names.now c.loop-name.name-index none c.loop-name-test.true c.loop-name.invariant
    (breaks_none bodies c.args.root (get_or c.args.names.now c.loop-name.name-index none) (rw c.in_default.is at c.in_ok-why.ensures))

pub returns-clause-none : goal.returns-clause-none
returns-clause-none g c =
    λ n there. c.loop-name.invariant n (subst (λ (ns : List Name). Contains ns n) (sym (take_all c.loop-name.name-index c.args.names.now c.loop-name-test.false)) there)
