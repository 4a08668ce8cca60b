use Rattle.std.proofs.Common.{◌≡◌, map, take}
use Rattle.serde_json.specs.View.{view}
use Rattle.swh_replies.specs.Json.{id_data}
use Rattle.swh_replies.proofs.artifacts.log_value.Given as goal

abbrev pub invariant-loop-name : goal.invariant-loop-name
invariant-loop-name l = map view l.values.items ≡ map (λ n. id_data n.id) (take l.name-index l.names)
