use Rattle.std.proofs.Common.{◌<◌, true, length, set, codes, ap, ◌∙◌, arith}
use Rattle.std.proofs.Math.ListN.{length-set}
use Rattle.std.proofs.lemmas.List.{get_or_default}
use Rattle.swh_base.specs.Snapshot.{ToBranch, ToNothing}
use Rattle.swh_snpfmt.specs.declared.branch.SpelledBranch.{SpelledBranch}
use Rattle.swh_snpfmt.specs.Branches.{branches_in_body, target_spelled}
use Rattle.swh_graph.specs.Root.{IsAlias}
use Rattle.swh_graph.proofs.Heads.{IsSeen, read_at, seen_there, seen_now, seen_stays, seen_only, branch_there, circle_leads_nowhere, dangling_leads_nowhere, missing_leads_nowhere}
use Rattle.swh_graph.proofs.Trails.{trail_goes_on}
use Rattle.swh_graph.proofs.head.head_of.Goals as goal

pub returns-then-index : goal.returns-then-index
returns-then-index c =
    let branches = c.args.branches.now in
    let seen = c.aliases.seen.items in
    let at = c.in-Some.ensures.some in
    let within = at.within in
    let long = c.aliases.invariant.long in
    let less : c.in-Some.place < length seen = omega (arith, within, long) in
    circle_leads_nowhere (branches_in_body branches) c.requires (IsSeen branches seen) (codes "HEAD") c.aliases.name.now c.aliases.invariant.trail
    (seen_there branches seen c.aliases.name.now c.in-Some.place long at (read_at seen c.in-Some.place c.index.result.now true less c.index.ensures c.if-index.true))

pub aliases-preserved : goal.aliases-preserved
aliases-preserved c =
    let branches = c.args.branches.now in
    let seen = c.aliases.seen.items in
    let name = c.aliases.name.now in
    let place = c.in-Some.place in
    let at = c.in-Some.ensures.some in
    let long = c.aliases.invariant.long in
    record {
      long = length-set seen place true ∙ long;
      trail = trail_goes_on (IsAlias (branches_in_body branches)) (IsSeen branches seen) (IsSeen branches (set seen place true)) (codes "HEAD") name c.in-Alias.other.now c.aliases.invariant.trail
          (branch_there branches seen name place long at (ToBranch c.in-Alias.other.now) (λ d. ap (λ (b : SpelledBranch). target_spelled b.target) (get_or_default branches place d _ at.within) ∙ ap target_spelled c.in-Alias.is))
          (seen_stays branches seen name place long at) (seen_now branches seen name place long at) (seen_only branches seen name place long at);
    }

pub returns-in-Dangling : goal.returns-in-Dangling
returns-in-Dangling c =
    let branches = c.args.branches.now in
    let seen = c.aliases.seen.items in
    let name = c.aliases.name.now in
    let place = c.in-Some.place in
    let at = c.in-Some.ensures.some in
    dangling_leads_nowhere (branches_in_body branches) c.requires (IsSeen branches seen) (codes "HEAD") name c.aliases.invariant.trail
    (branch_there branches seen name place c.aliases.invariant.long at ToNothing (λ d. ap (λ (b : SpelledBranch). target_spelled b.target) (get_or_default branches place d _ at.within) ∙ ap target_spelled c.in-Dangling.is))

pub returns : goal.returns
returns c =
    missing_leads_nowhere (branches_in_body c.args.branches.now) c.requires (IsSeen c.args.branches.now c.aliases.seen.items) (codes "HEAD") c.aliases.name.now c.aliases.invariant.trail c.in_default.ensures.none
