-- Laws of every graph: what is closed stays closed as it grows, and a certificate shows that a node is closed.
use Rattle.std.proofs.Common.{◌≡◌, inl, inr, Option, Some, List, [], ◌∷◌, refl, sym, ap, ◌∙◌, subst}
use Rattle.swh_base.specs.Reach.{IsHeldIn, IsChildIn, IsWalk, Reaches, IsClosed, AreClosed, IsCovered, Certifies, IsAmong, Grows, IsWithin}

module _ {X : Type 0} (IsHeld : X → Type 0) (IsChild : X → X → Type 0) where
  -- a child of a closed node is closed
  pub closed-next : (from next : X) → IsChild from next → IsClosed IsHeld IsChild from → IsClosed IsHeld IsChild next
  closed-next from next child closed n (nodes, walk) = closed n (next ∷ nodes, (child, walk))

  -- a walk goes on by one node
  pub reaches-next : (nodes : List X) (from p c : X) → IsWalk IsChild from nodes p → IsChild p c → Reaches IsChild from c
  reaches-next [] from p c e child = (c ∷ [], (subst (λ (x : X). IsChild x c) (sym e) child, refl))
  reaches-next (next ∷ nodes) from p c walk child =
      let more = reaches-next nodes next p c walk.1 child in (next ∷ more.0, (walk.0, more.1))

  covered_held : (closed nodes : List X) (root : X) → AreClosed IsHeld IsChild closed → Certifies IsHeld IsChild closed nodes root
      → (walk : List X) (from n : X) → IsCovered closed nodes from → IsWalk IsChild from walk n → IsHeld n
  covered_held closed nodes root are by [] from n (inl listed) e = subst IsHeld e (by.held from listed)
  covered_held closed nodes root are by (next ∷ walk) from n (inl listed) w = covered_held closed nodes root are by walk next n (by.kids from next listed w.0) w.1
  covered_held closed nodes root are by walk from n (inr known) w = are from known n (walk, w)

  -- a certificate shows that its root is closed
  pub certified-closed : (closed nodes : List X) (root : X) → AreClosed IsHeld IsChild closed → Certifies IsHeld IsChild closed nodes root → IsClosed IsHeld IsChild root
  certified-closed closed nodes root are by n (walk, w) = covered_held closed nodes root are by walk root n by.begins w

  -- so it does of each node that it lists
  pub listed-closed : (closed nodes : List X) (root : X) → AreClosed IsHeld IsChild closed → Certifies IsHeld IsChild closed nodes root → AreClosed IsHeld IsChild nodes
  listed-closed closed nodes root are by m listed =
      certified-closed closed nodes m are (record { begins = inl listed; held = by.held; kids = by.kids })

more_covered : {X : Type 0} (closed more nodes : List X) (n : X) → IsAmong closed more → IsCovered closed nodes n → IsCovered more nodes n
more_covered closed more nodes n among (inl listed) = inl listed
more_covered closed more nodes n among (inr known) = inr (among n known)

module _ {X : Type 0} (IsHeld : X → Type 0) (IsChild : X → X → Type 0) (IsHeldLater : X → Type 0) (IsChildLater : X → X → Type 0) where
  held_before : Grows IsHeld IsChild IsHeldLater IsChildLater → (nodes : List X) (from n : X) → IsClosed IsHeld IsChild from → IsWalk IsChildLater from nodes n → IsHeld n
  held_before grows [] from n closed e = closed n ([], e)
  held_before grows (next ∷ nodes) from n closed walk =
      let child : IsChild from next = grows.kids from next (closed from ([], refl)) walk.0 in
      held_before grows nodes next n (closed-next IsHeld IsChild from next child closed) walk.1

  -- what was closed is closed
  pub closed-grows : Grows IsHeld IsChild IsHeldLater IsChildLater → (root : X) → IsClosed IsHeld IsChild root → IsClosed IsHeldLater IsChildLater root
  closed-grows grows root closed n (nodes, walk) = grows.held n (held_before grows nodes root n closed walk)

  -- a certificate stays one
  pub certifies-grows : Grows IsHeld IsChild IsHeldLater IsChildLater → (closed more nodes : List X) (root : X) → IsAmong closed more → Certifies IsHeld IsChild closed nodes root → Certifies IsHeldLater IsChildLater more nodes root
  certifies-grows grows closed more nodes root among by =
      record {
        begins = more_covered closed more nodes root among by.begins;
        held = λ n listed. grows.held n (by.held n listed);
        kids = λ n child listed is. more_covered closed more nodes child among (by.kids n child listed (grows.kids n child (by.held n listed) is));
      }

module _ {X : Type 0} (IsChild IsChildThere : X → X → Type 0) (each : (p c : X) → IsChild p c → IsChildThere p c) where
  walk-there : (nodes : List X) (from to : X) → IsWalk IsChild from nodes to → IsWalk IsChildThere from nodes to
  walk-there [] from to e = e
  walk-there (next ∷ nodes) from to walk = (each from next walk.0, walk-there nodes next to walk.1)

  -- where each child is a child in the other graph, what is reached is reached there
  pub reaches-there : (from to : X) → Reaches IsChild from to → Reaches IsChildThere from to
  reaches-there from to (nodes, walk) = (nodes, walk-there nodes from to walk)

same_list : {X : Type 0} (a b : List X) → Some a ≡ Some b → a ≡ b
same_list a b e = cc

-- a function that has what another has grows from it
pub within-grows : {X : Type 0} (a b : X → Option (List X)) → IsWithin a b → Grows (IsHeldIn a) (IsChildIn a) (IsHeldIn b) (IsChildIn b)
within-grows a b within = record {
  held = λ n h. (h.0, within n h.0 h.1);
  kids = λ n child h is.
      let same : h.0 ≡ is.kids = same_list h.0 is.kids (sym (within n h.0 h.1) ∙ is.held) in
      record { kids = is.kids; held = h.1 ∙ ap (λ (ks : List _). Some ks) same; one_of = is.one_of };
}
