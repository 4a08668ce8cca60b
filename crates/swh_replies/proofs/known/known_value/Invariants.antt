use Rattle.std.proofs.Common.{◌≡◌, take}
use Rattle.serde_json.specs.Data.{no_members}
use Rattle.serde_json.specs.View.{members_view}
use Rattle.swh_swhid.specs.Core.{core_text}
use Rattle.swh_replies.specs.Json.{members_data, is_known_data}
use Rattle.swh_replies.proofs.known.known_value.Given as goal

abbrev pub invariant-loop-name : goal.invariant-loop-name
invariant-loop-name g l = members_view l.members.entries ≡ members_data core_text (is_known_data (g.L.Look.archive l.look).bodies) (take l.name-index l.names) no_members
