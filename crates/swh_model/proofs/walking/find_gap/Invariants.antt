use Rattle.std.proofs.Common.{[]}
use Rattle.swh_model.proofs.ListedWalks.{Walked}
use Rattle.swh_model.proofs.walking.find_gap.Given as goal

abbrev pub invariant-loop-place : goal.invariant-loop-place
invariant-loop-place l = Walked l.state.bodies l.root [] l.names.items l.place
