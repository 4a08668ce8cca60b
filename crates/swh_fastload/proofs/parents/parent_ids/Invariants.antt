use Rattle.std.specs.Option.{option_map}
use Rattle.swh_fastmeaning.specs.Tips.{aim_of}
use Rattle.swh_fastload.proofs.ParentsFound.{HasFirst}
use Rattle.swh_fastload.proofs.parents.parent_ids.Given as goal

abbrev pub invariant-loop-merge : goal.invariant-loop-merge
invariant-loop-merge l = HasFirst l.aims (option_map aim_of l.fn.first) l.merges l.merge-index l.ids.items
