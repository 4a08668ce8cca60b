use Rattle.std.proofs.Common.{List, subst}
use Rattle.std.specs.Prelude.{Contains}
use Rattle.swh_base.specs.declared.name.Name.{Name}
use Rattle.swh_base.specs.Reach.{IsHeldIn, IsChildIn}
use Rattle.swh_base.proofs.Reaches.{certified-closed}
use Rattle.swh_closure.proofs.walking.walk.Goals as goal

pub returns-clause-reached : goal.returns-clause-reached
returns-clause-reached g c n listed =
    c.in_ok-reached.ensures.reached n (subst (λ (names : List Name). Contains names n) c.in_ok-names.ensures.same listed)

pub returns-clause-closed : goal.returns-clause-closed
returns-clause-closed g c are =
    let children_of = g.G.Graph.children_of c.args.graph.now in
    certified-closed (IsHeldIn children_of) (IsChildIn children_of) c.args.closed.now c.in_ok-reached.field-0 c.args.root are c.in_ok-reached.ensures.ok
