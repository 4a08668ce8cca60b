-- Directories of revisions, and the ways that start at them.
use Rattle.std.proofs.Common.{◌≡◌, ◌⊎◌, inl, inr, ℕ, Option, Some, None, List, [], ◌∷◌, ◌++◌, map, refl, sym, ap, ◌∙◌, subst}
use Rattle.std.specs.Prelude.{Contains, ◌↔◌}
use Rattle.std.proofs.lemmas.List.Elements.{Contains-append_left, Contains-append_right, Contains-append_cases}
use Rattle.swh_base.specs.declared.kind.Kind.{Kind}
use Rattle.swh_base.specs.declared.kind.Kind.TheVariants.{Revision as RevisionKind}
use Rattle.swh_base.specs.declared.name.Name.{Name}
use Rattle.swh_base.specs.Manifest.{AreChildren}
use Rattle.swh_base.specs.Reach.{IsChildIn}
use Rattle.swh_base.specs.Revision.{Revision, IsRevision, revision_name, revision_children}
use Rattle.swh_base.proofs.RevisionLemmas.{one_revision}
use Rattle.swh_base.proofs.Elementary.{only}
use Rattle.swh_model.specs.Archive.{Bodies, body_of, IsGraphOf}
use Rattle.swh_graph.specs.Holding.{HoldsRevision}
use Rattle.swh_graph.specs.Path.{directory_name}
use Rattle.swh_graph.proofs.Lists.{in_first, same_some}
use Rattle.swh_postorder.specs.Cycle.{ArePreceded}
use Rattle.swh_postorder.proofs.Preceded.{cut_at}
use Rattle.swh_carried.specs.Ways.{Tells, IsWay as IsWayFrom}
use Rattle.swh_carried.proofs.WayCounts.{tells_same}
use Rattle.swh_fastcarried.specs.First.{IsOneOf, IsRootAt}
use Rattle.swh_fastcarried.specs.Rules.{IsRevisionRoot}
use Rattle.swh_fastcarried.specs.RevisionWays.{IsWay}

-- a name at the end of a list
pub pushed : (old new : List Name) (name : Name) → new ≡ old ++ name ∷ [] → (n : Name) → Contains new n ↔ (Contains old n ⊎ (name ≡ n))
pushed old new name is n = (
  λ there. elim (Contains-append_cases old (name ∷ []) n (subst (λ (l : List Name). Contains l n) is there)) [
    | inl was ↦ inl was
    | inr last ↦ inr (only name n last)
  ],
  λ there. subst (λ (l : List Name). Contains l n) (sym is) (elim there [
    | inl was ↦ Contains-append_left old (name ∷ []) n was
    | inr same ↦ subst (Contains (old ++ name ∷ [])) same (Contains-append_right old (name ∷ []) name (in_first name []))
  ]),
)

module _ (bodies : Bodies) where
  module _ (name : Name) where
    pub only_root : (r : Revision) → HoldsRevision bodies name r → (n : Name) → IsRootAt bodies name n → directory_name r.directory ≡ n
    only_root r holds n is =
        ap (λ (x : Revision). directory_name x.directory)
        (one_revision holds.body r is.revision holds.is (subst (λ (b : List ℕ). IsRevision b is.revision) (same_some is.holds.body holds.body (sym is.holds.held ∙ holds.held)) is.holds.is))
        ∙ sym is.named

    -- a revision has one directory
    pub one_root : (root : Name) → IsRootAt bodies name root → (n : Name) → (root ≡ n) ↔ IsRootAt bodies name n
    one_root root is n = (λ e. subst (IsRootAt bodies name) e is, λ other. is.named ∙ only_root is.revision is.holds n other)

  -- a revision's directory, by the name of the revision
  pub roots_same : (order : List Name) (n : Name) → IsOneOf (IsRootAt bodies) order n ↔ IsRevisionRoot bodies order n
  roots_same order n = (
    λ h. record { commit = h.one; there = h.there; kind = h.is.kind; revision = h.is.revision; holds = h.is.holds; named = h.is.named },
    λ h. record { one = h.commit; there = h.there; is = record { kind = h.kind; revision = h.revision; holds = h.holds; named = h.named } },
  )

  pub roots_are : (order roots : List Name) → ((n : Name) → Contains roots n ↔ IsOneOf (IsRootAt bodies) order n) → (n : Name) → Contains roots n ↔ IsRevisionRoot bodies order n
  roots_are order roots is n = (λ h. (roots_same order n).0 ((is n).0 h), λ h. (is n).1 ((roots_same order n).1 h))

  module _ (children_of : Name → Option (List Name)) (graph : IsGraphOf bodies children_of) where
    revision_kids : (name : Name) (body : List ℕ) (r : Revision) → name.kind ≡ RevisionKind → body_of bodies name ≡ Some body → IsRevision body r → (found : Option (List Name)) → children_of name ≡ found → children_of name ≡ Some (revision_children r)
    revision_kids name body r kind held is None missing = let e : Some body ≡ None = sym held ∙ graph.missing name missing in cc
    revision_kids name body r kind held is (Some kids) found =
        let has = graph.held name kids found in
        let same = same_some has.0 body (sym has.1 ∙ held) in
        let are = subst (λ (k : Kind). AreChildren k has.0 kids) kind has.2 in
        found ∙ ap (λ (ns : List Name). Some ns) (are.kids ∙ ap revision_children (one_revision body are.revision r (subst (λ (b : List ℕ). IsRevision b are.revision) same are.is) is))

    revision_kid : (place : Name) (r : Revision) → place.kind ≡ RevisionKind → HoldsRevision bodies place r → IsChildIn children_of place (directory_name r.directory)
    revision_kid place r kind holds = record {
      kids = revision_children r;
      held = revision_kids place holds.body r kind holds.held holds.is (children_of place) refl;
      one_of = in_first (directory_name r.directory) (map revision_name r.parents);
    }

    kid_in : (order : List Name) → ArePreceded children_of order → (parent child : Name) → Contains order parent → IsChildIn children_of parent child → Contains order child
    kid_in order preceded parent child there kid =
        let c = cut_at order parent there in
        subst (λ (ns : List Name). Contains ns child) (sym c.cut) (Contains-append_left c.before (parent ∷ c.behind) child (preceded c.before parent c.behind c.cut child kid))

    -- the directories of revisions are among what is reached
    pub root_in : (order : List Name) → ArePreceded children_of order → (n : Name) → IsRevisionRoot bodies order n → Contains order n
    root_in order preceded n is = subst (Contains order) (sym is.named) (kid_in order preceded is.commit (directory_name is.revision.directory) is.there (revision_kid is.commit is.revision is.kind is.holds))

  -- ways from these directories are ways from those of revisions
  pub ways_same : (order starts : List Name) → ((n : Name) → Contains starts n ↔ IsRevisionRoot bodies order n) → (n : Name) (o : Option ℕ) → Tells (IsWayFrom bodies starts n) o → Tells (IsWay bodies order n) o
  ways_same order starts are n =
      tells_same (IsWayFrom bodies starts n) (IsWay bodies order n)
      (λ c w. record { start = w.start; begins = (are w.start).0 w.starts_there; way = w.way; leads = w.leads; is = w.is })
      (λ c w. record { start = w.start; starts_there = (are w.start).1 w.begins; way = w.way; leads = w.leads; is = w.is })
