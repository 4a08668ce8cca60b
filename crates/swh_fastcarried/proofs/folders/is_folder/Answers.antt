use Rattle.std.proofs.Common.{[], sym, subst, List}
use Rattle.std.specs.Prelude.{Contains}
use Rattle.std.proofs.lemmas.List.{take_all}
use Rattle.swh_base.specs.declared.kind.Kind.TheVariants.{Content}
use Rattle.swh_base.specs.declared.name.Name.{Name}
use Rattle.swh_fastcarried.specs.First.{IsFolderAt}
use Rattle.swh_fastcarried.proofs.OwnBranches.{each_more}
use Rattle.swh_fastcarried.proofs.Reaching.{not_true}
use Rattle.swh_fastcarried.proofs.folders.is_folder.Goals as goal

abbrev none : Name
none = record { kind = Content; id = [] }

pub loop-parent-preserved : goal.loop-parent-preserved
loop-parent-preserved g c =
    each_more (λ (n : Name). IsFolderAt (g.L.Look.archive c.args.look.now).bodies n c.args.name → ⊥) c.args.order.now c.loop-parent.parent-index none c.loop-parent-test.true c.loop-parent.invariant
    (not_true c.in_ok-is_in.ensures c.if-branch.false)

pub returns : goal.returns
returns g c = (
  λ is. cc,
  λ one.
      absurd
      (c.loop-parent.invariant one.one
      (subst (λ (ns : List Name). Contains ns one.one) (sym (take_all c.loop-parent.parent-index c.args.order.now c.loop-parent-test.false)) one.there) one.is),
)
