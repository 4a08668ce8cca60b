-- An artifact has one root, or one name on the way to it that is missing.
use Rattle.std.proofs.Common.{◌≡◌, inl, inr, ℕ, Some, None, List, [], ◌∷◌, refl, sym, ap, ◌∙◌, subst}
use Rattle.std.specs.Prelude.{Contains, codes}
use Rattle.std.specs.Ordering.{nat_cmp}
use Rattle.std.specs.declared.cmp.Ordering.TheVariants.{Less, Equal}
use Rattle.std.specs.Cmp.{tied_itself}
use Rattle.std.specs.Cmp.Lexicographic.{slice_cmp, nat_list_cmp_total}
use Rattle.swh_base.specs.declared.kind.Kind.{Kind}
use Rattle.swh_base.specs.declared.kind.Kind.TheVariants.{Content, Directory, Revision as RevisionKind, Release as ReleaseKind, Snapshot}
use Rattle.swh_base.specs.declared.name.Name.{Name}
use Rattle.swh_base.specs.Revision.{Revision}
use Rattle.swh_base.specs.Release.{Release, IsRelease}
use Rattle.swh_base.specs.Snapshot.{BranchTarget, ToObject, ToBranch, SnapshotBranch, AreBranches, BranchIsBefore, IsSnapshot}
use Rattle.swh_base.proofs.RevisionLemmas.{one_release}
use Rattle.swh_base.proofs.SnapshotLemmas.{one_snapshot}
use Rattle.swh_base.proofs.Elementary.{none_in}
use Rattle.swh_model.specs.Archive.{Bodies, body_of}
use Rattle.swh_graph.specs.Holding.{HoldsRelease, HoldsSnapshot}
use Rattle.swh_graph.specs.Path.{directory_name}
use Rattle.swh_graph.specs.Root.{IsAlias, BranchLeads, HasTree, HasObject, HasHead, LeadsOn, HasRootOf, IsRoot, IsRootGap}
use Rattle.swh_graph.proofs.Lists.{in_cases, all_of, same_some, not_none, one_end}
use Rattle.swh_graph.proofs.OneLog.{one_held_revision}

-- ---- branches

same_name : (bs : List SnapshotBranch) (a b : SnapshotBranch) → AreBranches bs → Contains bs a → Contains bs b → a.name ≡ b.name → a ≡ b
same_name [] a b good h k named = absurd (none_in a h)
same_name (x ∷ xs) a b good h k named =
    elim (in_cases x xs a h) [
      | inl is ↦
          elim (in_cases x xs b k) [
            | inl is' ↦ sym is ∙ is'
            | inr more' ↦ absurd (not_itself x b (all_of (λ (o : SnapshotBranch). BranchIsBefore x o) xs b good.1 more') (ap (λ (o : SnapshotBranch). o.name) is ∙ named))
          ]
      | inr more ↦
          elim (in_cases x xs b k) [
            | inl is' ↦ absurd (not_itself x a (all_of (λ (o : SnapshotBranch). BranchIsBefore x o) xs a good.1 more) (ap (λ (o : SnapshotBranch). o.name) is' ∙ sym named))
            | inr more' ↦ same_name xs a b good.2 more more' named
          ]
    ]
  where
    not_itself : (x y : SnapshotBranch) → BranchIsBefore x y → x.name ≡ y.name → ⊥
    not_itself x y less same =
        let e : Less ≡ Equal = sym less ∙ ap (λ (n : List ℕ). slice_cmp nat_cmp n y.name) same ∙ tied_itself nat_list_cmp_total y.name in
        cc

module _ (bs : List SnapshotBranch) (good : AreBranches bs) where
  pub same_target : (name : List ℕ) (s t : BranchTarget) → Contains bs (record { name = name; target = s }) → Contains bs (record { name = name; target = t }) → s ≡ t
  same_target name s t h k =
      ap (λ (b : SnapshotBranch). b.target)
      (same_name bs (let a : SnapshotBranch = record { name = name; target = s } in a) (let b : SnapshotBranch = record { name = name; target = t } in b) good h k refl)

  pub one_alias : (a b c : List ℕ) → IsAlias bs a b → IsAlias bs a c → b ≡ c
  one_alias a b c h k = let same : ToBranch b ≡ ToBranch c = same_target a (ToBranch b) (ToBranch c) h k in cc

  pub object_no_alias : (name : List ℕ) (object : Name) → Contains bs (record { name = name; target = ToObject object }) → (other : List ℕ) → IsAlias bs name other → ⊥
  object_no_alias name object h other k = let same : ToObject object ≡ ToBranch other = same_target name (ToObject object) (ToBranch other) h k in cc

  pub one_object : (name : List ℕ) (a b : Name) → BranchLeads bs name a → BranchLeads bs name b → a ≡ b
  one_object name a b x y =
      let last : x.last ≡ y.last =
      one_end (IsAlias bs) one_alias x.aliases.0 y.aliases.0 name x.last y.last x.aliases.1 y.aliases.1 (object_no_alias x.last a x.target) (object_no_alias y.last b y.target) in
      let there : Contains bs (record { name = y.last; target = ToObject a }) =
      subst (λ (n : List ℕ). Contains bs (let branch : SnapshotBranch = record { name = n; target = ToObject a } in branch)) last x.target in
      let same : ToObject a ≡ ToObject b = same_target y.last (ToObject a) (ToObject b) there y.target in
      cc

-- ---- roots

module _ (bodies : Bodies) where
  one_tree : (name a b : Name) → HasTree bodies name a → HasTree bodies name b → a ≡ b
  one_tree name a b x y =
      x.is ∙ ap (λ (r : Revision). directory_name r.directory) (one_held_revision bodies name x.revision y.revision x.holds y.holds) ∙ sym y.is

  one_held_release : (name : Name) (r s : Release) → HoldsRelease bodies name r → HoldsRelease bodies name s → r ≡ s
  one_held_release name r s a b =
      one_release b.body r s (subst (λ (body : List ℕ). IsRelease body r) (same_some a.body b.body (sym a.held ∙ b.held)) a.is) b.is

  one_target : (name a b : Name) → HasObject bodies name a → HasObject bodies name b → a ≡ b
  one_target name a b x y = x.is ∙ ap (λ (r : Release). r.object) (one_held_release name x.release y.release x.holds y.holds) ∙ sym y.is

  pub one_held_snapshot : (name : Name) (r s : List SnapshotBranch) → HoldsSnapshot bodies name r → HoldsSnapshot bodies name s → r ≡ s
  one_held_snapshot name r s a b =
      one_snapshot b.body r s (subst (λ (body : List ℕ). IsSnapshot body r) (same_some a.body b.body (sym a.held ∙ b.held)) a.is) b.is

  one_head : (name a b : Name) → HasHead bodies name a → HasHead bodies name b → a ≡ b
  one_head name a b x y =
      let same : x.branches ≡ y.branches = one_held_snapshot name x.branches y.branches x.holds y.holds in
      one_object y.branches y.holds.is.good (codes "HEAD") a b (subst (λ (bs : List SnapshotBranch). BranchLeads bs (codes "HEAD") a) same x.leads) y.leads

  one_lead : (kind : Kind) (name a b : Name) → LeadsOn kind bodies name a → LeadsOn kind bodies name b → a ≡ b
  one_lead Content name a b x y = absurd x
  one_lead Directory name a b x y = absurd x
  one_lead RevisionKind name a b x y = one_tree name a b x y
  one_lead ReleaseKind name a b x y = one_target name a b x y
  one_lead Snapshot name a b x y = one_head name a b x y

  pub one_step : (name a b : Name) → HasRootOf bodies name a → HasRootOf bodies name b → a ≡ b
  one_step name a b x y = one_lead name.kind name a b x.leads y.leads

  folder_lead : (kind : Kind) (name a : Name) → kind ≡ Directory → LeadsOn kind bodies name a → ⊥
  folder_lead Content name a is x = x
  folder_lead Directory name a is x = x
  folder_lead RevisionKind name a is x = absurd (cc)
  folder_lead ReleaseKind name a is x = absurd (cc)
  folder_lead Snapshot name a is x = absurd (cc)

  -- a directory leads nowhere on
  pub folder_stops : (name a : Name) → name.kind ≡ Directory → HasRootOf bodies name a → ⊥
  folder_stops name a is x = folder_lead name.kind name a is x.leads

  lead_held : (kind : Kind) (name a : Name) → LeadsOn kind bodies name a → (body : List ℕ) × (body_of bodies name ≡ Some body)
  lead_held Content name a x = absurd x
  lead_held Directory name a x = absurd x
  lead_held RevisionKind name a x = (x.holds.body, x.holds.held)
  lead_held ReleaseKind name a x = (x.holds.body, x.holds.held)
  lead_held Snapshot name a x = (x.holds.body, x.holds.held)

  -- what leads on is held
  pub step_held : (name a : Name) → HasRootOf bodies name a → (body : List ℕ) × (body_of bodies name ≡ Some body)
  step_held name a x = lead_held name.kind name a x.leads

  missing_stops : (name a : Name) → body_of bodies name ≡ None → HasRootOf bodies name a → ⊥
  missing_stops name a missing x = let h = step_held name a x in not_none (body_of bodies name) h.0 h.1 missing

  pub one_root : (anchor a b : Name) → IsRoot bodies anchor a → IsRoot bodies anchor b → a ≡ b
  one_root anchor a b x y =
      one_end (HasRootOf bodies) one_step x.leads.0 y.leads.0 anchor a b x.leads.1 y.leads.1 (λ z s. folder_stops a z x.folder s) (λ z s. folder_stops b z y.folder s)

  pub one_gap : (anchor a b : Name) → IsRootGap bodies anchor a → IsRootGap bodies anchor b → a ≡ b
  one_gap anchor a b x y =
      one_end (HasRootOf bodies) one_step x.leads.0 y.leads.0 anchor a b x.leads.1 y.leads.1 (λ z s. missing_stops a z x.missing s) (λ z s. missing_stops b z y.missing s)

  pub root_or_gap : (anchor a b : Name) → IsRoot bodies anchor a → IsRootGap bodies anchor b → ⊥
  root_or_gap anchor a b x y =
      let same : a ≡ b = one_end (HasRootOf bodies) one_step x.leads.0 y.leads.0 anchor a b x.leads.1 y.leads.1 (λ z s. folder_stops a z x.folder s) (λ z s. missing_stops b z y.missing s) in
      y.no_folder (ap (λ (n : Name). n.kind) (sym same) ∙ x.folder)
