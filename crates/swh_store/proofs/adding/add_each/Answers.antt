use Rattle.swh_store.proofs.AddingLemmas.{added-next, all_added, fault-next}
use Rattle.swh_store.proofs.adding.add_each.Goals as goal

pub returns-in-Err-clause-fault : goal.returns-in-Err-clause-fault
returns-in-Err-clause-fault c =
    fault-next c.args.held.now.entries.items c.loop-entry.held.entries.items c.args.entries.now c.loop-entry.entry-index c.entry-item.result c.in-Err.fault
    c.loop-entry-test.true c.entry-item.is c.loop-entry.invariant.added c.in-Err.ensures.fault

pub loop-entry-preserved : goal.loop-entry-preserved
loop-entry-preserved c =
    record {
      indexed = c.add_one.ensures.indexed;
      added = added-next c.args.held.now.entries.items c.loop-entry.held.entries.items c.add_one.new.held.entries.items c.args.entries.now
          c.loop-entry.entry-index c.entry-item.result c.loop-entry-test.true c.entry-item.is c.loop-entry.invariant.added c.in_default.ensures.ok;
    }

pub returns-clause-distinct : goal.returns-clause-distinct
returns-clause-distinct c =
    (all_added c.args.held.now.entries.items c.loop-entry.held.entries.items c.args.entries.now c.loop-entry.entry-index c.loop-entry-test.false c.loop-entry.invariant.added).1
