use Rattle.std.proofs.Common.{ℕ, List, [], get_or, sym, ap, ◌∙◌, subst}
use Rattle.std.specs.List.{flat_map}
use Rattle.std.proofs.lemmas.List.{take_all}
use Rattle.std.proofs.lemmas.List.Elements.{Contains-get_or}
use Rattle.swh_base.specs.declared.kind.Kind.TheVariants.{Content}
use Rattle.swh_snpfmt.specs.declared.branch.SpelledBranch.{SpelledBranch}
use Rattle.swh_snpfmt.specs.declared.branch.SpelledTarget.TheVariants.{Object}
use Rattle.swh_snpfmt.specs.Branches.{branch_of, branches_in_body}
use Rattle.swh_graph.proofs.Lists.{in_map}
use Rattle.swh_fastwrite.specs.Held.{kept, Goes}
use Rattle.swh_fastcook.specs.Stream.{tips_text}
use Rattle.swh_fastcook.proofs.Lines.{tip_of, tips_are, tips_stopped, tips_unsettled, tips_more}
use Rattle.swh_fastcook.proofs.Texts.{settled, stopped}
use Rattle.swh_fastcook.proofs.tips.write_tips.Goals as goal

abbrev none : SpelledBranch
none = record { name = record { ref_ptr = (0, 0); now = [] }; target = Object Content (record { ref_ptr = (0, 0); now = [] }) }

pub push_branch-requires : goal.push_branch-requires
push_branch-requires g c = λ n target kind.
    let i = c.loop-branch.branch-index in
    let bs = c.args.branches.now in
    c.requires (branch_of (get_or bs i none)) n (in_map branch_of bs (get_or bs i none) (Contains-get_or bs i none c.loop-branch-test.true)) target kind

pub returns-in_err-push_branch-clause-bytes : goal.returns-in_err-push_branch-clause-bytes
returns-in_err-push_branch-clause-bytes g c =
    let old = kept c.args.taker.now c.args.held.now.items in
    stopped g.T.Taker.takes g.T.Taker.takes_front old (kept c.loop-branch.taker c.push_branch.new.held.items) c.from_residual.result c.from_residual.ensures.0 (tips_text c.args.marks.now (branches_in_body c.args.branches.now))
    (tips_stopped g.T.Taker.takes g.T.Taker.takes_front g.met.T.Taker.adds_up c.args.marks.now c.args.branches.now old (kept c.loop-branch.taker c.loop-branch.held.items) c.loop-branch.branch-index c.loop-branch.invariant.goes)

pub returns-in_err-settle-clause-bytes : goal.returns-in_err-settle-clause-bytes
returns-in_err-settle-clause-bytes g c =
    let old = kept c.args.taker.now c.args.held.now.items in
    stopped g.T.Taker.takes g.T.Taker.takes_front old (kept c.settle.new.taker c.settle.new.held.items) c.from_residual-in_err-settle.result c.from_residual-in_err-settle.ensures.0 (tips_text c.args.marks.now (branches_in_body c.args.branches.now))
    (tips_unsettled g.T.Taker.takes g.T.Taker.takes_front g.met.T.Taker.adds_up c.args.marks.now c.args.branches.now old (kept c.loop-branch.taker c.loop-branch.held.items) c.loop-branch.branch-index c.loop-branch.invariant.goes none c.loop-branch-test.true
    c.push_branch.new.held.items c.settle.new.taker c.in_ok-push_branch.ensures c.in_err-settle.ensures.bytes.err)

pub loop-branch-preserved : goal.loop-branch-preserved
loop-branch-preserved g c =
    let old = kept c.args.taker.now c.args.held.now.items in
    let mid = kept c.loop-branch.taker c.loop-branch.held.items in
    let new = kept c.settle.new.taker c.settle.new.held.items in
    let i = c.loop-branch.branch-index in
    record {
      quiet = c.in_ok-settle.ensures.cause.quiet ∙ c.loop-branch.invariant.quiet;
      goes =
          tips_more g.T.Taker.takes g.T.Taker.takes_front g.met.T.Taker.adds_up c.args.marks.now c.args.branches.now old mid i c.loop-branch.invariant.goes none c.loop-branch-test.true new
          (settled g.T.Taker.takes g.T.Taker.takes_front g.met.T.Taker.adds_up c.loop-branch.taker c.loop-branch.held.items (tip_of c.args.marks.now (get_or c.args.branches.now i none)) c.push_branch.new.held.items new c.in_ok-push_branch.ensures
          c.in_ok-settle.ensures.bytes.ok);
    }

pub returns-clause-bytes : goal.returns-clause-bytes
returns-clause-bytes g c =
    let old = kept c.args.taker.now c.args.held.now.items in
    let now = kept c.loop-branch.taker c.loop-branch.held.items in
    let order = c.args.marks.now in
    record {
      ok =
          subst (λ (t : List ℕ). Goes g.T.Taker.takes g.T.Taker.takes_front old t now)
          (ap (flat_map (tip_of order)) (take_all c.loop-branch.branch-index c.args.branches.now c.loop-branch-test.false) ∙ sym (tips_are order c.args.branches.now)) c.loop-branch.invariant.goes;
      err = tt;
    }
