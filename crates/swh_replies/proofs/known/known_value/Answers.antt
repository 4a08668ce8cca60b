use Rattle.std.proofs.Common.{List, ap, ◌∙◌}
use Rattle.std.proofs.lemmas.List.{take_all}
use Rattle.serde_json.specs.Data.{object, no_members}
use Rattle.serde_json.proofs.Views.{view-Object}
use Rattle.swh_base.specs.declared.name.Name.{Name}
use Rattle.swh_swhid.specs.Core.{core_text}
use Rattle.swh_replies.specs.Json.{members_data, is_known_data}
use Rattle.swh_replies.proofs.Values.{one_more_name}
use Rattle.swh_replies.proofs.known.known_value.Goals as goal

pub loop-name-preserved : goal.loop-name-preserved
loop-name-preserved g c = one_more_name (g.L.Look.archive c.args.look.now).bodies c.args.names.now c.loop-name.name-index _ _ _ c.loop-name.invariant c.loop-name-test.true c.in_ok-put_known.ensures

pub returns : goal.returns
returns g c =
    let bodies = (g.L.Look.archive c.args.look.now).bodies in
    view-Object c.loop-name.members ∙ ap object (c.loop-name.invariant ∙ ap (λ (ns : List Name). members_data core_text (is_known_data bodies) ns no_members) (take_all c.loop-name.name-index c.args.names.now c.loop-name-test.false))
