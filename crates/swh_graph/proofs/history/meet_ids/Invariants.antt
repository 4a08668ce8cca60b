use Rattle.std.proofs.Common.{map, take}
use Rattle.swh_base.specs.Revision.{revision_name}
use Rattle.swh_graph.specs.Met.{MeetsUpTo}
use Rattle.swh_graph.proofs.history.meet_ids.Given as goal

abbrev pub invariant-loop-id : goal.invariant-loop-id
invariant-loop-id l = MeetsUpTo l.limit l.initial.met (map revision_name (take l.id-index l.ids)) l.met
