-- A name is cooked: a content as its bytes, all else as a stream.
use Rattle.std.proofs.Common.{◌≡◌, ◌≢◌, inl, inr, ℕ, Option, Some, None, List, [], ◌∷◌, refl, sym, ap, ◌∙◌, subst}
use Rattle.std.specs.Prelude.{Contains}
use Rattle.swh_base.specs.declared.kind.Kind.{Kind}
use Rattle.swh_base.specs.declared.kind.Kind.TheVariants.{Content, Directory, Revision as RevisionKind, Release as ReleaseKind, Snapshot}
use Rattle.swh_base.specs.declared.name.Name.{Name}
use Rattle.swh_base.specs.Manifest.{AreChildren}
use Rattle.swh_base.proofs.Elementary.{none_in, only}
use Rattle.swh_model.specs.Archive.{Bodies, body_of, IsGraphOf}
use Rattle.swh_postorder.specs.Postorder.{Over, Enters, Here, IsEntered, IsPostorder, IsFirstMissing}
use Rattle.swh_postorder.specs.Cycle.{IsOnCycle}
use Rattle.swh_carried.specs.declared.fault.Why.{Why}
use Rattle.swh_carried.specs.declared.fault.Why.TheVariants.{Cycle, Revision, Release, Empty, Dots, Text, Path, Branch, Tagless, Refs, Length}
use Rattle.swh_carried.specs.Uncarried.{BreaksNone}
use Rattle.swh_fastcarried.specs.Rules.{IsOddKind, IsOddObject, BreaksIn}
use Rattle.swh_fastcarried.proofs.FirstRules.{rule_none}
use Rattle.swh_fastcook.specs.Cook.{BreaksStream, LeadsHead, IsCarriedStream, IsTextOfKind, IsCookedText}
use Rattle.swh_fastcook.specs.Ready.{IsReady}
use Rattle.swh_fastcook.specs.Stream.{IsStreamOf, IsStreamText}
use Rattle.swh_fastcook.proofs.Loads.{content_few}

none_entered : (n : Name) → IsEntered [] [] n → ⊥
none_entered n (inl there) = none_in n there
none_entered n (inr there) = none_in n there

-- ---- contents

module _ (bodies : Bodies) (children_of : Name → Option (List Name)) (graph : IsGraphOf bodies children_of) (root : Name) where
  -- what is not held is the first that a walk from it enters
  pub missing_first : body_of bodies root ≡ None → IsFirstMissing children_of root root
  missing_first none = record { stop = Here Over; walk = (record { front = []; back = []; cut = refl; before = refl; fresh = none_entered root }, by (children_of root) refl) }
    where
      by : (found : Option (List Name)) → children_of root ≡ found → children_of root ≡ None
      by None is = is
      by (Some kids) is = let held = graph.held root kids is in let e : Some held.0 ≡ None = sym held.1 ∙ none in cc

  module _ (kind : root.kind ≡ Content) (body : List ℕ) (held : body_of bodies root ≡ Some body) where
    no_kids : (found : Option (List Name)) → children_of root ≡ found → children_of root ≡ Some []
    no_kids None is = let e : Some body ≡ None = sym held ∙ graph.missing root is in cc
    no_kids (Some kids) is =
        let has = graph.held root kids is in
        is ∙ ap (λ (ns : List Name). Some ns) (subst (λ (k : Kind). AreChildren k has.0 kids) kind has.2)

    kids_are : children_of root ≡ Some []
    kids_are = no_kids (children_of root) refl

    alone : IsPostorder children_of root (root ∷ [])
    alone = record { trip = Enters root Over Over; walk = ([], [], refl, none_entered root, kids_are, refl, refl); is = refl }

    no_cycle : (n : Name) → Contains (root ∷ []) n → IsOnCycle children_of n → ⊥
    no_cycle n there c =
        let kid = c.is_child in
        let held_here : children_of root ≡ Some kid.kids = ap children_of (only root n there) ∙ kid.held in
        let none : Some [] ≡ Some kid.kids = sym kids_are ∙ held_here in
        none_in c.child (subst (λ (ns : List Name). Contains ns c.child) (sym (same_list [] kid.kids none)) kid.one_of)
      where
        same_list : (a b : List Name) → Some a ≡ Some b → a ≡ b
        same_list a b e = cc

    none_broken : (order : List Name) → BreaksNone (BreaksStream bodies root order) root
    none_broken order why h = rule_none bodies root order root kind why (back why h)
      where
        back : (w : Why) → BreaksStream bodies root order root w → BreaksIn bodies root order ⊥ ⊥ root w
        back Cycle x = x
        back Revision x = x
        back Release x = x
        back Empty x = x
        back Dots x = x
        back Text x = x
        back Path x = x
        back Branch x = x
        back Tagless x = x
        back Refs x = (x.0, content_few bodies order root kind x.1)
        back Length x = (x.0, x.1.0 kind)

    pub content_carried : IsCarriedStream bodies children_of root
    content_carried = record {
      order = root ∷ [];
      is_order = alone;
      carried = record {
        acyclic = no_cycle;
        none = λ n there. subst (BreaksNone (BreaksStream bodies root (root ∷ []))) (only root n there) (none_broken (root ∷ []));
      };
    }

    pub content_text : IsCookedText bodies children_of root body
    content_text = subst (λ (k : Kind). IsTextOfKind bodies children_of root k body) (sym kind) held

    pub not_snapshot : (target : List ℕ) → LeadsHead bodies root target → ⊥
    not_snapshot target h = let e : Content ≡ Snapshot = sym kind ∙ h.kind in cc

-- ---- streams

module _ (bodies : Bodies) (children_of : Name → Option (List Name)) (root : Name) (other : root.kind ≢ Content) (order : List Name) (head : Option (List ℕ)) (ready : IsReady bodies children_of root order head) where
  pub ready_carried : IsCarriedStream bodies children_of root
  ready_carried = record { order = order; is_order = ready.is_order; carried = ready.carried }

  pub stream_text : (text : List ℕ) → IsStreamText bodies order root text → IsCookedText bodies children_of root text
  stream_text text is = by root.kind refl (record { order = order; is_order = ready.is_order; is = is })
    where
      by : (kind : Kind) → root.kind ≡ kind → IsStreamOf bodies children_of root text → IsTextOfKind bodies children_of root kind text
      by Content k s = absurd (other k)
      by Directory k s = s
      by RevisionKind k s = s
      by ReleaseKind k s = s
      by Snapshot k s = s

-- what is carried is plain
pub carried_plain : (bodies : Bodies) (root : Name) (order : List Name) → ((n : Name) → Contains order n → BreaksNone (BreaksStream bodies root order) n) → (n : Name) → Contains order n → IsOddObject bodies n → ⊥
carried_plain bodies root order none n there odd = by n.kind refl odd
  where
    by : (kind : Kind) → n.kind ≡ kind → IsOddKind bodies n kind → ⊥
    by Content k h = h
    by Directory k h = h
    by RevisionKind k h = none n there Revision h
    by ReleaseKind k h = none n there Release h
    by Snapshot k h = h
