use Rattle.std.proofs.Common.{◌≡◌, List, ℕ, ◌++◌, [], length, Some, None}
use Rattle.swh_http.specs.Turn.{MayTakeMore, SoFar, held_of}
use Rattle.swh_http.proofs.session.read.Given as goal

abbrev pub invariant-turns : goal.invariant-turns
invariant-turns l = record {
  ready : MayTakeMore l.state;
  open_so : (held : List ℕ) → held_of l.fn.state ≡ Some held → SoFar (held ++ l.piece) l.asks.items (held_of l.state) l.rest;
  closed_so : held_of l.fn.state ≡ None → (l.asks.items ≡ []) × (held_of l.state ≡ None);
}

abbrev pub decreases-turns : goal.decreases-turns
decreases-turns l = length l.rest
