use Rattle.std.proofs.Common.{◌≡◌, ◌++◌, take}
use Rattle.swh_http.specs.Turn.{GoesAt}
use Rattle.swh_http.proofs.state.read_head.Given as goal

abbrev pub invariant-bytes : goal.invariant-bytes
invariant-bytes l = record { text : l.held.items ≡ l.fn.bytes.items ++ take l.index l.rest; at : GoesAt l.held.items l.place }
