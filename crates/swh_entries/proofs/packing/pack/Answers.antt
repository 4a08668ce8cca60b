use Rattle.swh_entries.proofs.Packings.{entries-push}
use Rattle.swh_entries.proofs.packing.pack.Goals as goal

pub returns-clause-entry : goal.returns-clause-entry
returns-clause-entry c = rw c.in_ok-push.ensures.items (entries-push c.args.leaves.now.items c.part_of.new.leaves.items c.args.slots.now.items (record { name = c.in_ok-name.name; part = c.in_ok-part.part }) c.args.entry c.part_of.ensures.adds c.requires c.in_ok-name.ensures c.in_ok-part.ensures.child)
