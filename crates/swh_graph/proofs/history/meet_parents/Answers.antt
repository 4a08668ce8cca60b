use Rattle.std.proofs.Common.{refl, map}
use Rattle.swh_base.specs.Revision.{revision_name}
use Rattle.swh_revfmt.specs.Reading.{revision_spelled}
use Rattle.swh_graph.proofs.history.meet_parents.Goals as goal

pub returns-clause-ok : goal.returns-clause-ok
returns-clause-ok g c = record {
  parents = map revision_name c.in_ok-rev.rev.parents;
  has = record { revision = revision_spelled c.in_ok-rev.rev; holds = c.in_ok-rev.ensures.ok; are = refl };
  meets = rw c.as_slice.ensures at c.in_ok-meet_ids.ensures;
}
