use Rattle.std.proofs.Common.{take}
use Rattle.swh_graph.specs.Met.{MeetsAll}
use Rattle.swh_graph.proofs.met.Met.meet_all.Given as goal

abbrev pub invariant-loop-name : goal.invariant-loop-name
invariant-loop-name l = MeetsAll l.initial.self (take l.name-index l.names) l.self
