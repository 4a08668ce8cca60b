use Rattle.std.proofs.Common.{[], ◌∷◌, ◌++◌, List, ap, ◌∙◌}
use Rattle.swh_base.specs.declared.name.Name.{Name}
use Rattle.swh_model.specs.Archive.{Bodies}
use Rattle.swh_model.specs.Certificate.{AreClosed}
use Rattle.swh_model.proofs.ListedWalks.{parent_held, walk-next, walk-ends, walk-begins, none_in}
use Rattle.swh_model.proofs.walking.find_gap.Goals as goal

none_closed : (bodies : Bodies) → AreClosed bodies []
none_closed bodies n there = absurd (none_in n there)

pub loop-place-init : goal.loop-place-init
loop-place-init c =
    walk-begins c.args.state.now.bodies c.args.root.now c.push.new.self.items (c.in_ok-push.ensures.items ∙ ap (λ (l : List Name). l ++ c.args.root.now ∷ []) c.new-names.ensures.items) c.requires

pub returns-in_default-clause-closed : goal.returns-in_default-clause-closed
returns-in_default-clause-closed c =
    walk-ends c.args.state.now.bodies c.args.root.now [] c.loop-place.names.items c.loop-place.place (rw c.as_slice.ensures.value at c.in_default.ensures) c.loop-place.invariant (none_closed c.args.state.now.bodies)
    c.args.root.now c.loop-place.invariant.begins

pub list_children-requires : goal.list_children-requires
list_children-requires c =
    (parent_held c.args.state.now.bodies c.args.root.now c.in-Some.parent [] c.loop-place.names.items c.loop-place.place (rw c.as_slice.ensures.value at c.in-Some.ensures) c.loop-place.invariant).1

pub returns-in-Some-2-clause-open : goal.returns-in-Some-2-clause-open
returns-in-Some-2-clause-open c =
    let gap = rw c.in-Some-2.is at c.in_ok-child.ensures.gap in
    record {
      reached = (parent_held c.args.state.now.bodies c.args.root.now c.in-Some.parent [] c.loop-place.names.items c.loop-place.place (rw c.as_slice.ensures.value at c.in-Some.ensures) c.loop-place.invariant).0;
      is_child = gap.0;
      missing = gap.1;
    }

pub loop-place-preserved : goal.loop-place-preserved
loop-place-preserved c =
    walk-next c.args.state.now.bodies c.args.root.now c.in-Some.parent [] c.loop-place.names.items c.loop-place.place (rw c.as_slice.ensures.value at c.in-Some.ensures) c.loop-place.invariant c.list_children.new.names.items c.list_children.ensures.gains
    (let all = rw c.in_default-2.is at c.in_ok-child.ensures.all in all)
