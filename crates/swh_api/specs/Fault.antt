-- The reply that tells why a call over the graph has no value.
use Rattle.std.specs.Prelude.{◌≡◌}
use Rattle.swh_base.specs.declared.request.Reply.{Reply}
use Rattle.swh_graph.specs.declared.fault.GraphFault.{GraphFault}
use Rattle.swh_graph.specs.declared.fault.GraphFault.TheVariants.{NotHeld, NoPath, Memory}
use Rattle.swh_replies.specs.Json.{no_path_data, tree_reply}
use Rattle.swh_replies.specs.Answers.{not_held}

-- The reply tells the fault. Want of memory has none.
abbrev pub IsFaultReply : GraphFault → Reply → Type 0
IsFaultReply (NotHeld name) reply = reply ≡ not_held name
IsFaultReply (NoPath component) reply = reply ≡ tree_reply 404 (no_path_data component)
IsFaultReply Memory reply = ⊥
