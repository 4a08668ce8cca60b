use Rattle.std.proofs.Common.{◌≡◌, take}
use Rattle.std.specs.List.{flat_map}
use Rattle.swh_fastwrite.specs.Held.{Goes, kept}
use Rattle.swh_fastcook.proofs.Lines.{tip_of}
use Rattle.swh_fastcook.proofs.tips.write_tips.Given as goal

abbrev pub invariant-loop-branch : goal.invariant-loop-branch
invariant-loop-branch g l = record {
  quiet : g.T.Taker.failures l.taker ≡ g.T.Taker.failures l.initial.taker;
  goes : Goes g.T.Taker.takes g.T.Taker.takes_front (kept l.initial.taker l.initial.held.items) (flat_map (tip_of l.marks) (take l.branch-index l.branches)) (kept l.taker l.held.items);
}
