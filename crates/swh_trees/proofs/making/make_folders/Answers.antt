use Rattle.swh_folders.proofs.Lives.{arena-lower}
use Rattle.swh_trees.proofs.making.make_folders.Goals as goal

pub compact-requires-clause-lower : goal.compact-requires-clause-lower
compact-requires-clause-lower g c = arena-lower c.args.folders.now.names.items c.args.folders.now.nodes.items c.requires.good.arena

pub returns-in-Ok-made-clause-objects : goal.returns-in-Ok-made-clause-objects
returns-in-Ok-made-clause-objects g c = rw (c.count_from-in-Ok-made.ensures.names, c.count_from-in-Ok-made.ensures.nodes) (rw (c.as_slice.ensures.value, c.as_slice-2.ensures.value) at c.in-Ok-made.ensures.objects)
