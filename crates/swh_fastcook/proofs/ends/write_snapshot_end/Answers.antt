use Rattle.std.proofs.Common.{List, sym, subst}
use Rattle.swh_snpfmt.specs.declared.branch.SpelledBranch.{SpelledBranch}
use Rattle.swh_snpfmt.specs.Branches.{branches_in_body}
use Rattle.swh_fastwrite.specs.Held.{kept}
use Rattle.swh_fastwrite.proofs.Pieces.{front_none}
use Rattle.swh_fastcook.specs.Ends.{IsEnd}
use Rattle.swh_fastcook.specs.Tips.{LeadInOrder}
use Rattle.swh_fastcook.proofs.EndTexts.{tips_broke, last_broke, end_done}
use Rattle.swh_fastcook.proofs.Kids.{tips_in}
use Rattle.swh_fastcook.proofs.Texts.{stopped_some}
use Rattle.swh_fastcook.proofs.ends.write_snapshot_end.Goals as goal

pub returns-in_err-branches-clause-bytes : goal.returns-in_err-branches-clause-bytes
returns-in_err-branches-clause-bytes g c =
    let old = kept c.args.taker.now c.args.held.now.items in
    stopped_some g.T.Taker.takes g.T.Taker.takes_front old old c.from_residual.result c.from_residual.ensures.0 (IsEnd (g.L.Look.archive c.args.look.now).bodies c.args.marks.now c.args.root)
    (λ t _. front_none g.T.Taker.takes g.T.Taker.takes_front g.met.T.Taker.adds_up old t)

pub write_tips-requires : goal.write_tips-requires
write_tips-requires g c =
    let bodies = (g.L.Look.archive c.args.look.now).bodies in
    subst (λ (bs : List SpelledBranch). LeadInOrder c.args.marks.now (branches_in_body bs)) (sym c.as_slice.ensures.value)
    (tips_in bodies (g.L.Graph.children_of c.args.look.now) c.is_graph.ensures c.args.marks.now c.requires.preceded c.args.root c.requires.there c.requires.kind (branches_in_body c.in_ok-branches.branches.items) c.in_ok-branches.ensures)

pub returns-in_err-write_tips-clause-bytes : goal.returns-in_err-write_tips-clause-bytes
returns-in_err-write_tips-clause-bytes g c =
    let bodies = (g.L.Look.archive c.args.look.now).bodies in
    let old = kept c.args.taker.now c.args.held.now.items in
    let bs = branches_in_body c.in_ok-branches.branches.items in
    stopped_some g.T.Taker.takes g.T.Taker.takes_front old (kept c.write_tips.new.taker c.write_tips.new.held.items) c.from_residual-in_err-write_tips.result c.from_residual-in_err-write_tips.ensures.0
    (IsEnd bodies c.args.marks.now c.args.root)
    (tips_broke bodies c.args.marks.now c.args.root c.requires.kind bs c.in_ok-branches.ensures g.T.Taker.takes g.T.Taker.takes_front g.met.T.Taker.adds_up old c.write_tips.new.taker
    (rw c.as_slice.ensures.value at c.in_err-write_tips.ensures.bytes.err))

pub returns-in_err-push_last-clause-bytes : goal.returns-in_err-push_last-clause-bytes
returns-in_err-push_last-clause-bytes g c =
    let bodies = (g.L.Look.archive c.args.look.now).bodies in
    let old = kept c.args.taker.now c.args.held.now.items in
    let mid = kept c.write_tips.new.taker c.write_tips.new.held.items in
    let bs = branches_in_body c.in_ok-branches.branches.items in
    stopped_some g.T.Taker.takes g.T.Taker.takes_front old (kept c.write_tips.new.taker c.push_last.new.held.items) c.from_residual-in_err-push_last.result c.from_residual-in_err-push_last.ensures.0
    (IsEnd bodies c.args.marks.now c.args.root)
    (last_broke bodies c.args.marks.now c.args.root c.requires.kind bs c.in_ok-branches.ensures g.T.Taker.takes g.T.Taker.takes_front g.met.T.Taker.adds_up old mid
    (rw c.as_slice.ensures.value at c.in_ok-write_tips.ensures.bytes.ok))

pub returns-clause-bytes : goal.returns-clause-bytes
returns-clause-bytes g c =
    let bodies = (g.L.Look.archive c.args.look.now).bodies in
    let old = kept c.args.taker.now c.args.held.now.items in
    let mid = kept c.write_tips.new.taker c.write_tips.new.held.items in
    let bs = branches_in_body c.in_ok-branches.branches.items in
    record {
      ok =
          end_done bodies c.args.marks.now c.args.root c.requires.kind bs c.in_ok-branches.ensures g.T.Taker.takes g.T.Taker.takes_front g.met.T.Taker.adds_up old mid c.push_last.new.held.items c.leaves_branch-leaves.result
          (rw c.as_slice.ensures.value at c.in_ok-write_tips.ensures.bytes.ok) (rw c.as_slice-2.ensures.value at (rw c.order.ensures at c.leaves_branch-leaves.ensures)) c.in_ok-push_last.ensures;
      err = tt;
    }
