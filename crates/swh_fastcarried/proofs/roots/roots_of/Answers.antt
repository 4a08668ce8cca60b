use Rattle.std.proofs.Common.{[], ◌⊎◌, List, subst, sym}
use Rattle.std.specs.Prelude.{Contains, ◌↔◌}
use Rattle.swh_base.specs.declared.name.Name.{Name}
use Rattle.swh_fastcarried.specs.First.{IsOneOf, IsRootAt}
use Rattle.swh_fastcarried.proofs.Ones.{one_none, one_next, one_end, from_none}
use Rattle.swh_fastcarried.proofs.RevisionRoots.{roots_are}
use Rattle.swh_fastcarried.proofs.roots.roots_of.Goals as goal

pub loop-name-init : goal.loop-name-init
loop-name-init g c =
    let Is = IsRootAt (g.L.Look.archive c.args.look.now).bodies in
    subst (λ (l : List Name). (n : Name) → Contains l n ↔ (Contains [] n ⊎ IsOneOf Is [] n)) (sym c.new-roots.ensures.items) (one_none Is [])

pub loop-name-preserved : goal.loop-name-preserved
loop-name-preserved g c =
    one_next (IsRootAt (g.L.Look.archive c.args.look.now).bodies) c.args.order.now c.loop-name.name-index _ c.loop-name-test.true [] c.loop-name.roots.items c.add_of.new.roots.items c.loop-name.invariant c.in_ok-add_of.ensures

pub returns : goal.returns
returns g c =
    let bodies = (g.L.Look.archive c.args.look.now).bodies in
    let Is = IsRootAt bodies in
    roots_are bodies c.args.order.now c.loop-name.roots.items
    (from_none Is c.args.order.now c.loop-name.roots.items (one_end Is c.args.order.now c.loop-name.name-index c.loop-name-test.false [] c.loop-name.roots.items c.loop-name.invariant))
