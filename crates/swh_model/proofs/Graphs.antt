-- The bodies of an archive are a graph: a function that has their children tells what is reached and what is closed.
use Rattle.std.proofs.Common.{◌≡◌, ℕ, Option, Some, None, List, Contains, refl, sym, ◌∙◌, subst}
use Rattle.std.specs.Prelude.{◌↔◌}
use Rattle.swh_base.specs.declared.name.Name.{Name}
use Rattle.swh_base.specs.Manifest.{AreChildren}
use Rattle.swh_base.specs.Reach.{IsHeldIn, IsChildIn, ReachesIn, IsClosedIn}
use Rattle.swh_base.proofs.Children.{one_list}
use Rattle.swh_base.proofs.Reaches.{reaches-there}
use Rattle.swh_model.specs.Archive.{Bodies, IsHeld, IsChild, Reaches, IsClosed, IsGraphOf}

module _ (bodies : Bodies) (children_of : Name → Option (List Name)) (is : IsGraphOf bodies children_of) where
  pub held-in : (n : Name) → IsHeld bodies n → IsHeldIn children_of n
  held-in n h = elim (children_of n) as (λ o. children_of n ≡ o → IsHeldIn children_of n) [
    | None ↦ λ e. absurd (let some = sym h.1 ∙ is.missing n e in cc)
    | Some kids ↦ λ e. (kids, e)
  ] refl

  pub held-out : (n : Name) → IsHeldIn children_of n → IsHeld bodies n
  held-out n h = let there = is.held n h.0 h.1 in (there.0, there.1)

  same_body : (a b : List ℕ) → Some a ≡ Some b → a ≡ b
  same_body a b e = cc

  pub child-out : (p c : Name) → IsChildIn children_of p c → IsChild bodies p c
  child-out p c child =
      let there = is.held p child.kids child.held in
      record { body = there.0; held = there.1; kids = child.kids; are = there.2; one_of = child.one_of }

  pub child-in : (p c : Name) → IsChild bodies p c → IsChildIn children_of p c
  child-in p c child =
      let h = held-in p (child.body, child.held) in
      let there = is.held p h.0 h.1 in
      let bodies_same : child.body ≡ there.0 = same_body child.body there.0 (sym child.held ∙ there.1) in
      let one : child.kids ≡ h.0 = one_list p.kind there.0 child.kids h.0 (subst (λ (b : List ℕ). AreChildren p.kind b child.kids) bodies_same child.are) there.2 in
      record { kids = h.0; held = h.1; one_of = subst (λ (ks : List Name). Contains ks c) one child.one_of }

  pub reaches-same : (from to : Name) → Reaches bodies from to ↔ ReachesIn children_of from to
  reaches-same from to = (reaches-there (IsChild bodies) (IsChildIn children_of) child-in from to, reaches-there (IsChildIn children_of) (IsChild bodies) child-out from to)

  pub closed-same : (root : Name) → IsClosed bodies root ↔ IsClosedIn children_of root
  closed-same root = (
    λ closed n reached. held-in n (closed n (reaches-there (IsChildIn children_of) (IsChild bodies) child-out root n reached)),
    λ closed n reached. held-out n (closed n (reaches-there (IsChild bodies) (IsChildIn children_of) child-in root n reached)),
  )
