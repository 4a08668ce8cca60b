use Rattle.std.proofs.Common.{◌≡◌, length, codes}
use Rattle.swh_snpfmt.specs.Branches.{branches_in_body}
use Rattle.swh_graph.specs.Root.{IsAlias}
use Rattle.swh_graph.proofs.Heads.{IsSeen, unseen}
use Rattle.swh_graph.proofs.Trails.{IsTrail}
use Rattle.swh_graph.proofs.head.head_of.Given as goal

abbrev pub invariant-aliases : goal.invariant-aliases
invariant-aliases l = record {
  long : length l.seen.items ≡ length l.branches;
  trail : IsTrail (IsAlias (branches_in_body l.branches)) (IsSeen l.branches l.seen.items) (codes "HEAD") l.name;
}

abbrev pub decreases-aliases : goal.decreases-aliases
decreases-aliases l = unseen l.seen.items
