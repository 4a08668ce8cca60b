-- What walks and certificates over a store say of its bodies.
use Rattle.std.proofs.Common.{◌≡◌, ℕ, ◌<◌, Option, Some, List, [], sym, subst, arith}
use Rattle.swh_base.specs.declared.name.Name.{Name}
use Rattle.swh_base.specs.Reach.{IsClosedIn, AreClosedIn}
use Rattle.swh_model.specs.declared.event.No.TheVariants.{NotClosed}
use Rattle.swh_model.specs.Archive.{Bodies, IsClosed, IsGraphOf}
use Rattle.swh_model.proofs.Graphs.{reaches-same, closed-same}
use Rattle.swh_closure.specs.Certificate.{IsMissing, IsWalkFault}
use Rattle.swh_closure.specs.declared.walking.WalkFault.{WalkFault}
use Rattle.swh_closure.specs.declared.walking.WalkFault.TheVariants.{Missing}
use Rattle.swh_plan.specs.Plan.{IsFullRefusal}

none_known : (children_of : Name → Option (List Name)) → AreClosedIn children_of []
none_known children_of n there = let less : there.0 < 0 = there.1 in absurd (omega (arith, less))

-- what is closed over the graph, where nothing is known to be, is closed
pub closed_from_nothing : (bodies : Bodies) (children_of : Name → Option (List Name)) (closed : List Name) (root : Name) → IsGraphOf bodies children_of → closed ≡ []
    → (AreClosedIn children_of closed → IsClosedIn children_of root) → IsClosed bodies root
closed_from_nothing bodies children_of closed root graph none shows =
    (closed-same bodies children_of graph root).1 (shows (subst (AreClosedIn children_of) (sym none) (none_known children_of)))

gap_of : (bodies : Bodies) (children_of : Name → Option (List Name)) (root parent child : Name) → IsGraphOf bodies children_of → IsMissing children_of root (Some parent) child
    → IsFullRefusal bodies root (NotClosed parent child)
gap_of bodies children_of root parent child graph (held, reached, one, none) =
    let there = graph.held root held.0 held.1 in
    let at = graph.held parent one.kids one.held in (
      (there.0, there.1),
      record {
        reached = (reaches-same bodies children_of graph root parent).1 reached;
        is_child = record { body = at.0; held = at.1; kids = one.kids; are = at.2; one_of = one.one_of };
        missing = graph.missing child none;
      },
    )

-- a child is reached that is not held
pub child_missing : (bodies : Bodies) (children_of : Name → Option (List Name)) (root parent child : Name) (fault : WalkFault) → IsGraphOf bodies children_of → fault ≡ Missing (Some parent) child → IsWalkFault children_of root fault
    → IsFullRefusal bodies root (NotClosed parent child)
child_missing bodies children_of root parent child fault graph is why = gap_of bodies children_of root parent child graph (subst (IsWalkFault children_of root) is why)
