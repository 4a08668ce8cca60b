use Rattle.std.proofs.Common.{List, codes, subst}
use Rattle.std.specs.Prelude.{MatchOption}
use Rattle.swh_base.specs.declared.name.Name.{Name}
use Rattle.swh_snpfmt.specs.declared.branch.SpelledBranch.{SpelledBranch}
use Rattle.swh_snpfmt.specs.Branches.{branches_in_body}
use Rattle.swh_graph.specs.Root.{BranchLeads}
use Rattle.swh_graph.proofs.RootTrails.{head_answers}
use Rattle.swh_graph.proofs.roots.target_of_head.Goals as goal

pub returns-clause-ok : goal.returns-clause-ok
returns-clause-ok g c =
    head_answers (g.L.Look.archive c.args.look.now).bodies c.args.name (branches_in_body c.in_ok-branches.branches.items) c.in_ok-branches.ensures.ok c.in_ok-head.head
    (subst (λ (bs : List SpelledBranch). MatchOption c.in_ok-head.head ((object : Name) → BranchLeads (branches_in_body bs) (codes "HEAD") object → ⊥) (BranchLeads (branches_in_body bs) (codes "HEAD"))) c.as_slice.ensures.value c.in_ok-head.ensures)
