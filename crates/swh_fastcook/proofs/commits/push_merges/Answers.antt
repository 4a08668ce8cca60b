use Rattle.std.proofs.Common.{ℕ, List, ◌++◌, sym, ap, ◌∙◌, codes}
use Rattle.std.specs.List.{flat_map}
use Rattle.std.proofs.lemmas.List.{append-nil, take_all}
use Rattle.std.proofs.lemmas.List.Elements.{Contains-get_or}
use Rattle.swh_fastcook.specs.Stream.{parent_line}
use Rattle.swh_fastcook.proofs.Lines.{lines_step}
use Rattle.swh_fastcook.proofs.commits.push_merges.Goals as goal

pub loop-id-init : goal.loop-id-init
loop-id-init c = sym (append-nil c.args.held.now.items)

pub push_parent-requires : goal.push_parent-requires
push_parent-requires c = c.requires _ (Contains-get_or c.args.ids.now c.loop-id.id-index _ c.loop-id-test.true)

pub loop-id-preserved : goal.loop-id-preserved
loop-id-preserved c =
    lines_step (parent_line c.args.marks.now (codes "merge ")) c.args.ids.now c.loop-id.id-index _ c.loop-id-test.true c.args.held.now.items c.loop-id.held.items c.push_parent.new.held.items
    c.loop-id.invariant c.in_ok-push_parent.ensures

pub returns : goal.returns
returns c =
    c.loop-id.invariant
    ∙ ap (λ (t : List (List ℕ)). c.args.held.now.items ++ flat_map (parent_line c.args.marks.now (codes "merge ")) t) (take_all c.loop-id.id-index c.args.ids.now c.loop-id-test.false)
