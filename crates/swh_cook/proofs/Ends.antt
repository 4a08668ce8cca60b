-- How the cooking of a name may end.
use Rattle.std.proofs.Common.{◌≡◌, inl, inr, Option, List, subst}
use Rattle.swh_base.specs.declared.kind.Kind.{Kind}
use Rattle.swh_base.specs.declared.kind.Kind.TheVariants.{Content, Directory, Revision, Release, Snapshot}
use Rattle.swh_base.specs.declared.name.Name.{Name}
use Rattle.swh_model.specs.Archive.{Bodies}
use Rattle.swh_postorder.specs.Postorder.{IsFirstMissing}
use Rattle.swh_postorder.proofs.Stops.{one_order, not_order_and_gap}
use Rattle.swh_carried.specs.declared.fault.Why.{Why}
use Rattle.swh_carried.specs.Uncarried as form
use Rattle.swh_carried.proofs.Firsts.{one_first_uncarried, not_both}
use Rattle.swh_fastcook.specs.Cook.{BreaksStream, IsCarriedStream, IsUncarriedStream}
use Rattle.swh_dircook.specs.Cook.{IsCarriedFolder, IsUncarriedFolder}
use Rattle.swh_dircook.specs.Rules.{BreaksInFolder}
use Rattle.swh_cook.specs.Cook.{IsCarried, IsUncarried, IsCarriedOf, IsUncarriedOf}

module _ (bodies : Bodies) (children_of : Name → Option (List Name)) (root : Name) where
  held_of : (kind : Kind) (missing : Name) → IsCarriedOf bodies children_of root kind → IsFirstMissing children_of root missing → ⊥
  held_of Content missing c m = not_order_and_gap children_of root missing c.order c.is_order m
  held_of Directory missing c m = not_order_and_gap children_of root missing c.order c.is_order m
  held_of Revision missing c m = not_order_and_gap children_of root missing c.order c.is_order m
  held_of Release missing c m = not_order_and_gap children_of root missing c.order c.is_order m
  held_of Snapshot missing c m = not_order_and_gap children_of root missing c.order c.is_order m

  reached_of : (kind : Kind) (name missing : Name) (why : Why) → IsUncarriedOf bodies children_of root kind name why → IsFirstMissing children_of root missing → ⊥
  reached_of Content name missing why u m = not_order_and_gap children_of root missing u.order u.is_order m
  reached_of Directory name missing why u m = not_order_and_gap children_of root missing u.order u.is_order m
  reached_of Revision name missing why u m = not_order_and_gap children_of root missing u.order u.is_order m
  reached_of Release name missing why u m = not_order_and_gap children_of root missing u.order u.is_order m
  reached_of Snapshot name missing why u m = not_order_and_gap children_of root missing u.order u.is_order m

  stream_or : (name : Name) (why : Why) → IsCarriedStream bodies children_of root → IsUncarriedStream bodies children_of root name why → ⊥
  stream_or name why c u =
      let same = one_order children_of root u.order c.order u.is_order c.is_order in
      not_both children_of (BreaksStream bodies root c.order) c.order name why c.carried
      (subst (λ (order : List Name). form.IsUncarried children_of (BreaksStream bodies root order) order name why) same u.is)

  folder_or : (name : Name) (why : Why) → IsCarriedFolder bodies children_of root → IsUncarriedFolder bodies children_of root name why → ⊥
  folder_or name why c u =
      let same = one_order children_of root u.order c.order u.is_order c.is_order in
      not_both children_of (BreaksInFolder bodies root) c.order name why c.carried
      (subst (λ (order : List Name). form.IsUncarried children_of (BreaksInFolder bodies root) order name why) same u.is)

  stream_once : (m n : Name) (v w : Why) → IsUncarriedStream bodies children_of root m v → IsUncarriedStream bodies children_of root n w → (m ≡ n) × (v ≡ w)
  stream_once m n v w c d =
      let same = one_order children_of root c.order d.order c.is_order d.is_order in
      one_first_uncarried children_of (BreaksStream bodies root d.order) d.order m n v w
      (subst (λ (order : List Name). form.IsUncarried children_of (BreaksStream bodies root order) order m v) same c.is) d.is

  folder_once : (m n : Name) (v w : Why) → IsUncarriedFolder bodies children_of root m v → IsUncarriedFolder bodies children_of root n w → (m ≡ n) × (v ≡ w)
  folder_once m n v w c d =
      let same = one_order children_of root c.order d.order c.is_order d.is_order in
      one_first_uncarried children_of (BreaksInFolder bodies root) d.order m n v w
      (subst (λ (order : List Name). form.IsUncarried children_of (BreaksInFolder bodies root) order m v) same c.is) d.is

  once_of : (kind : Kind) (m n : Name) (v w : Why) → IsUncarriedOf bodies children_of root kind m v → IsUncarriedOf bodies children_of root kind n w → (m ≡ n) × (v ≡ w)
  once_of Content m n v w c d = stream_once m n v w c d
  once_of Directory m n v w c d = folder_once m n v w c d
  once_of Revision m n v w c d = stream_once m n v w c d
  once_of Release m n v w c d = stream_once m n v w c d
  once_of Snapshot m n v w c d = stream_once m n v w c d

  carried_of : (kind : Kind) (name : Name) (why : Why) → IsCarriedOf bodies children_of root kind → IsUncarriedOf bodies children_of root kind name why → ⊥
  carried_of Content name why c u = stream_or name why c u
  carried_of Directory name why c u = folder_or name why c u
  carried_of Revision name why c u = stream_or name why c u
  carried_of Release name why c u = stream_or name why c u
  carried_of Snapshot name why c u = stream_or name why c u

pub carried_held : (bodies : Bodies) (children_of : Name → Option (List Name)) (root missing : Name) → IsCarried bodies children_of root → IsFirstMissing children_of root missing → ⊥
carried_held bodies children_of root missing c m = held_of bodies children_of root root.kind missing c m

pub uncarried_held : (bodies : Bodies) (children_of : Name → Option (List Name)) (root name missing : Name) (why : Why) → IsUncarried bodies children_of root name why → IsFirstMissing children_of root missing → ⊥
uncarried_held bodies children_of root name missing why u m = reached_of bodies children_of root root.kind name missing why u m

pub carried_or : (bodies : Bodies) (children_of : Name → Option (List Name)) (root name : Name) (why : Why) → IsCarried bodies children_of root → IsUncarried bodies children_of root name why → ⊥
carried_or bodies children_of root name why c u = carried_of bodies children_of root root.kind name why c u

pub one_uncarried : (bodies : Bodies) (children_of : Name → Option (List Name)) (root m n : Name) (v w : Why) → IsUncarried bodies children_of root m v → IsUncarried bodies children_of root n w → (m ≡ n) × (v ≡ w)
one_uncarried bodies children_of root m n v w c d = once_of bodies children_of root root.kind m n v w c d
