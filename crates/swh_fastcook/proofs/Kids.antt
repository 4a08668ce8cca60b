-- The children of what is in the order are in it too.
use Rattle.std.proofs.Common.{◌≡◌, inl, inr, ℕ, true, Option, Some, None, List, [], ◌∷◌, map, refl, sym, ap, ◌∙◌, subst}
use Rattle.std.specs.Prelude.{Contains}
use Rattle.std.specs.List.{filter_map, cons_option}
use Rattle.std.proofs.lemmas.List.Elements.{Contains-append_left}
use Rattle.swh_base.specs.declared.kind.Kind.{Kind}
use Rattle.swh_base.specs.declared.kind.Kind.TheVariants.{Content, Directory, Revision as RevisionKind, Release as ReleaseKind, Snapshot}
use Rattle.swh_base.specs.declared.name.Name.{Name}
use Rattle.swh_base.specs.Manifest.{AreChildren}
use Rattle.swh_base.specs.Reach.{IsChildIn}
use Rattle.swh_base.specs.Revision.{Revision, IsRevision, revision_name, revision_children}
use Rattle.swh_base.specs.Release.{Release, IsRelease}
use Rattle.swh_base.specs.Snapshot.{SnapshotBranch, BranchTarget, ToObject, ToBranch, ToNothing, IsSnapshot, branch_child}
use Rattle.swh_base.proofs.RevisionLemmas.{one_revision, one_release}
use Rattle.swh_base.proofs.SnapshotLemmas.{one_snapshot}
use Rattle.swh_base.proofs.Elementary.{same_body, none_in as nothing_in, none_in}
use Rattle.swh_model.specs.Archive.{Bodies, body_of, IsGraphOf}
use Rattle.swh_graph.specs.Holding.{HoldsSnapshot}
use Rattle.swh_graph.specs.Path.{directory_name}
use Rattle.swh_graph.proofs.Lists.{in_cases as one_or_more}
use Rattle.swh_postorder.specs.Cycle.{ArePreceded}
use Rattle.swh_postorder.proofs.Preceded.{cut_at}
use Rattle.swh_postorder.proofs.Trips.{first_in, later_in, in_cases}
use Rattle.swh_revfmt.specs.Plain.{PlainRevision, IsPlainRevision, PlainRelease, IsPlainRelease}
use Rattle.swh_marks.specs.Marks.{is_written_kind, is_written}
use Rattle.swh_fastcook.specs.Tips.{LeadInOrder}

-- an object that a release names, and that a stream carries, has a command
pub written_object : (kind : Kind) → (kind ≡ Directory → ⊥) → (kind ≡ Snapshot → ⊥) → is_written_kind kind ≡ true
written_object Content directory snapshot = refl
written_object Directory directory snapshot = absurd (directory refl)
written_object RevisionKind directory snapshot = refl
written_object ReleaseKind directory snapshot = refl
written_object Snapshot directory snapshot = absurd (snapshot refl)

in_map : (ids : List (List ℕ)) (id : List ℕ) → Contains ids id → Contains (map revision_name ids) (revision_name id)
in_map [] id there = absurd (none_in id there)
in_map (x ∷ ids) id there =
    elim (in_cases x ids id there) [
      | inl same ↦ subst (λ (y : List ℕ). Contains (map revision_name (x ∷ ids)) (revision_name y)) same (first_in (revision_name x) (map revision_name ids))
      | inr later ↦ later_in (revision_name x) (map revision_name ids) (revision_name id) (in_map ids id later)
    ]

target_child : (b : SnapshotBranch) (n : Name) → b.target ≡ ToObject n → branch_child b ≡ Some n
target_child b n e = ap (λ (t : BranchTarget). elim t [ ToObject n ↦ Some n | ToBranch name ↦ None | ToNothing ↦ None ]) e

more_in : (o : Option Name) (kids : List Name) (n : Name) → Contains kids n → Contains (cons_option o kids) n
more_in None kids n there = there
more_in (Some k) kids n there = later_in k kids n there

target_in : (bs : List SnapshotBranch) (b : SnapshotBranch) (n : Name) → Contains bs b → b.target ≡ ToObject n → Contains (filter_map branch_child bs) n
target_in [] b n there e = absurd (nothing_in b there)
target_in (x ∷ xs) b n there e =
    elim (one_or_more x xs b there) [
      | inl same ↦
          subst (λ (o : Option Name). Contains (cons_option o (filter_map branch_child xs)) n) (sym (ap branch_child same ∙ target_child b n e)) (first_in n (filter_map branch_child xs))
      | inr later ↦ more_in (branch_child x) (filter_map branch_child xs) n (target_in xs b n later e)
    ]

module _ (bodies : Bodies) (children_of : Name → Option (List Name)) (graph : IsGraphOf bodies children_of) where
  -- the children of a revision that is held
  revision_by : (name : Name) (body : List ℕ) (r : Revision) → name.kind ≡ RevisionKind → body_of bodies name ≡ Some body → IsRevision body r → (found : Option (List Name)) → children_of name ≡ found → children_of name ≡ Some (revision_children r)
  revision_by name body r kind held is None missing = let e : Some body ≡ None = sym held ∙ graph.missing name missing in cc
  revision_by name body r kind held is (Some kids) found =
      let has = graph.held name kids found in
      let same = same_body has.0 body (sym has.1 ∙ held) in
      let are = subst (λ (k : Kind). AreChildren k has.0 kids) kind has.2 in
      found ∙ ap (λ (ns : List Name). Some ns) (are.kids ∙ ap revision_children (one_revision body are.revision r (subst (λ (b : List ℕ). IsRevision b are.revision) same are.is) is))

  pub revision_kid : (name : Name) (body : List ℕ) (r : Revision) (child : Name) → name.kind ≡ RevisionKind → body_of bodies name ≡ Some body → IsRevision body r → Contains (revision_children r) child → IsChildIn children_of name child
  revision_kid name body r child kind held is there = record { kids = revision_children r; held = revision_by name body r kind held is (children_of name) refl; one_of = there }

  -- the child of a release that is held
  release_by : (name : Name) (body : List ℕ) (r : Release) → name.kind ≡ ReleaseKind → body_of bodies name ≡ Some body → IsRelease body r → (found : Option (List Name)) → children_of name ≡ found → children_of name ≡ Some (r.object ∷ [])
  release_by name body r kind held is None missing = let e : Some body ≡ None = sym held ∙ graph.missing name missing in cc
  release_by name body r kind held is (Some kids) found =
      let has = graph.held name kids found in
      let same = same_body has.0 body (sym has.1 ∙ held) in
      let are = subst (λ (k : Kind). AreChildren k has.0 kids) kind has.2 in
      found ∙ ap (λ (ns : List Name). Some ns) (are.kids ∙ ap (λ (x : Release). x.object ∷ []) (one_release body are.release r (subst (λ (b : List ℕ). IsRelease b are.release) same are.is) is))

  -- the children of a snapshot that is held
  snapshot_by : (name : Name) (body : List ℕ) (bs : List SnapshotBranch) → name.kind ≡ Snapshot → body_of bodies name ≡ Some body → IsSnapshot body bs → (found : Option (List Name)) → children_of name ≡ found → children_of name ≡ Some (filter_map branch_child bs)
  snapshot_by name body bs kind held is None missing = let e : Some body ≡ None = sym held ∙ graph.missing name missing in cc
  snapshot_by name body bs kind held is (Some kids) found =
      let has = graph.held name kids found in
      let same = same_body has.0 body (sym has.1 ∙ held) in
      let are = subst (λ (k : Kind). AreChildren k has.0 kids) kind has.2 in
      found ∙ ap (λ (ns : List Name). Some ns) (are.kids ∙ ap (filter_map branch_child) (one_snapshot body are.branches bs (subst (λ (b : List ℕ). IsSnapshot b are.branches) same are.is) is))

  module _ (order : List Name) (preceded : ArePreceded children_of order) where
    kid_in : (parent child : Name) → Contains order parent → IsChildIn children_of parent child → Contains order child
    kid_in parent child there kid =
        let c = cut_at order parent there in
        subst (λ (ns : List Name). Contains ns child) (sym c.cut) (Contains-append_left c.before (parent ∷ c.behind) child (preceded c.before parent c.behind c.cut child kid))

    -- what a snapshot's branches lead to
    pub tips_in : (root : Name) → Contains order root → root.kind ≡ Snapshot → (bs : List SnapshotBranch) → HoldsSnapshot bodies root bs → LeadInOrder order bs
    tips_in root there kind bs holds b n one target is =
        kid_in root n there (record { kids = filter_map branch_child bs; held = snapshot_by root holds.body bs kind holds.held holds.is (children_of root) refl; one_of = target_in bs b n one target })

    module _ (name : Name) (body : List ℕ) (there : Contains order name) (held : body_of bodies name ≡ Some body) where
      pub directory_in : (p : PlainRevision) → name.kind ≡ RevisionKind → IsPlainRevision body p → Contains order (directory_name p.directory)
      directory_in p kind is =
          let r : Revision = record { directory = p.directory; parents = p.parents; rest = is.bytes } in
          kid_in name (directory_name p.directory) there
          (revision_kid name body r (directory_name p.directory) kind held is.revision (first_in (directory_name p.directory) (map revision_name p.parents)))

      pub parents_in : (p : PlainRevision) → name.kind ≡ RevisionKind → IsPlainRevision body p → (id : List ℕ) → Contains p.parents id → Contains order (revision_name id)
      parents_in p kind is id one =
          let r : Revision = record { directory = p.directory; parents = p.parents; rest = is.bytes } in
          kid_in name (revision_name id) there
          (revision_kid name body r (revision_name id) kind held is.revision (later_in (directory_name p.directory) (map revision_name p.parents) (revision_name id) (in_map p.parents id one)))

      pub object_in : (p : PlainRelease) → name.kind ≡ ReleaseKind → IsPlainRelease body p → Contains order p.object
      object_in p kind is =
          let r : Release = record { object = p.object; tag = p.tag; rest = is.bytes } in
          kid_in name p.object there (record { kids = p.object ∷ []; held = release_by name body r kind held is.release (children_of name) refl; one_of = first_in p.object [] })

      pub object_written : (p : PlainRelease) → IsPlainRelease body p → is_written p.object ≡ true
      object_written p is = written_object p.object.kind is.no_directory is.release.no_snapshot
