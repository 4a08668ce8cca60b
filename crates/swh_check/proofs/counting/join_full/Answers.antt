use Rattle.std.proofs.Common.{◌≡◌, inl, inr, Some, sym, subst}
use Rattle.swh_base.specs.declared.name.Name.{Name}
use Rattle.swh_base.specs.Reach.{ReachesIn, IsClosedIn}
use Rattle.swh_base.specs.Snapshot.{snapshot_name}
use Rattle.swh_store.specs.Stored.{children_in}
use Rattle.swh_check.proofs.counting.join_full.Goals as goal

pub returns-in_ok-_closed-clause-joins : goal.returns-in_ok-_closed-clause-joins
returns-in_ok-_closed-clause-joins c n =
    let graph = children_in c.args.store.now in
    let name = c.in-Some.name in
    let given = c.in-Some.ensures.some in
    let yes = c.in_ok-_closed.ensures.value.1 (subst (λ (m : Name). IsClosedIn graph m) (sym given.2) (c.requires.closed given.0 given.1)) in (
      λ h. elim (c.close.ensures.only n h) [
        | inl old ↦ inl old
        | inr reached ↦ inr (given.0, given.1, subst (λ (m : Name). ReachesIn graph m n) given.2 reached)
      ],
      λ h. elim h [
        | inl old ↦ c.close.ensures.stays n old
        | inr full ↦
            let is : snapshot_name full.0 ≡ name = let e : Some name ≡ Some (snapshot_name full.0) = c.in-Some.ensures.only full.0 full.1 in cc in
            c.in_ok-_closed.ensures.all yes n (subst (λ (m : Name). ReachesIn graph m n) is full.2)
      ],
    )
