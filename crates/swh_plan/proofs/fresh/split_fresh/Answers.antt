use Rattle.std.proofs.Common.{◌+◌, Option, subst, sym}
use Rattle.swh_base.specs.declared.name.Name.{Name}
use Rattle.swh_plan.proofs.BatchLemmas.{splits-next, none_has_two, nothing_new, Splits}
use Rattle.swh_plan.proofs.fresh.split_fresh.Goals as goal

pub returns-in_err-standing-clause-held : goal.returns-in_err-standing-clause-held
returns-in_err-standing-clause-held c nothing =
    absurd (nothing_new c.args.store.now.bodies c.args.entries.now c.loop-entry.entry-index c.entry-item.result c.loop-entry-test.true c.entry-item.is nothing c.in_err-standing.ensures.err)

pub loop-entry-preserved : goal.loop-entry-preserved
loop-entry-preserved c =
    subst (λ (found : Option Name). Splits c.args.store.now.bodies c.args.entries.now (c.loop-entry.entry-index + 1) c.take_up.new.fresh found) (sym c.first_collision-collision.ensures)
    (splits-next c.args.store.now.bodies c.args.entries.now c.loop-entry.fresh c.take_up.new.fresh c.loop-entry.entry-index c.entry-item.result c.loop-entry.collision _ c.loop-entry-test.true c.entry-item.is c.loop-entry.invariant c.in_ok-standing.ensures.ok)

pub returns-clause-none : goal.returns-clause-none
returns-clause-none c =
    none_has_two c.args.store.now.bodies c.args.entries.now c.loop-entry.fresh c.loop-entry.entry-index c.loop-entry.collision c.loop-entry-test.false c.loop-entry.invariant
