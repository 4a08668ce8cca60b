-- The branches that a stream loads.
use Rattle.std.proofs.Common.{◌≡◌, inl, inr, ℕ, ◌+◌, ◌<◌, ◌≤◌, Bool, Some, List, [], ◌∷◌, ◌++◌, length, sym, ap, ◌∙◌, subst, arith, codes}
use Rattle.std.specs.Prelude.{◌↔◌, IsTrue, decimal}
use Rattle.std.proofs.lemmas.List.{append-nil}
use Rattle.swh_base.specs.declared.kind.Kind.{Kind}
use Rattle.swh_base.specs.declared.kind.Kind.TheVariants.{Content, Directory, Revision as RevisionKind}
use Rattle.swh_base.specs.declared.name.Name.{Name}
use Rattle.swh_base.specs.Limits.{body_limit}
use Rattle.swh_base.specs.Snapshot.{SnapshotBranch, IsSnapshot, snapshot_text}
use Rattle.swh_base.proofs.SnapshotLemmas.{one_snapshot}
use Rattle.swh_model.specs.Archive.{Bodies, body_of}
use Rattle.swh_graph.specs.Holding.{HoldsSnapshot}
use Rattle.swh_graph.proofs.Lists.{same_some}
use Rattle.swh_fastcook.proofs.TagMaps.{sized}
use Rattle.swh_fastcook.specs.Loaded.{main_branch, without_head, AreMany, AreLoadedOf, LoadsMany}

-- ---- a snapshot that is held

module _ (bodies : Bodies) (root : Name) (branches : List SnapshotBranch) (holds : HoldsSnapshot bodies root branches) where
  pub same_branches : (others : List SnapshotBranch) → HoldsSnapshot bodies root others → others ≡ branches
  same_branches others h = one_snapshot holds.body others branches (subst (λ (t : List ℕ). IsSnapshot t others) (same_some h.body holds.body (sym h.held ∙ holds.held)) h.is) holds.is

  abbrev HeldMany : Type 0
  HeldMany = (others : List SnapshotBranch) × HoldsSnapshot bodies root others × AreMany others

  abbrev HasLongBody : Type 0
  HasLongBody = (body : List ℕ) × (body_of bodies root ≡ Some body) × (body_limit < length body)

  body_is : (body : List ℕ) → body_of bodies root ≡ Some body → body ≡ snapshot_text branches
  body_is body held = same_some body holds.body (sym held ∙ holds.held) ∙ holds.is.text

  long_of : length (without_head branches) ≤ 65536 → HeldMany → HasLongBody
  long_of few (others, also, many) = by (subst AreMany (same_branches others also) many)
    where
      by : AreMany branches → HasLongBody
      by (inl more) = absurd (omega (arith, few, more))
      by (inr long) = (holds.body, holds.held, subst (λ (t : List ℕ). body_limit < length t) (sym holds.is.text) long)

  pub held_same : (long : Bool) → length (without_head branches) ≤ 65536 → IsTrue long ↔ HasLongBody → IsTrue long ↔ HeldMany
  held_same long few both = (
    λ told.
        let h = both.0 told in
        (branches, holds, inr (subst (λ (t : List ℕ). body_limit < length t) (body_is h.0 h.1) h.2)),
    λ h. both.1 (long_of few h),
  )

-- ---- what a stream loads, by the kind of its root

module _ (bodies : Bodies) (order : List Name) (root : Name) where
  abbrev OfKind : Kind → Type 0
  OfKind kind = (branches : List SnapshotBranch) × AreLoadedOf bodies order root kind branches × AreMany branches

  of_loads : (kind : Kind) → root.kind ≡ kind → LoadsMany bodies order root → OfKind kind
  of_loads kind is h = (h.branches, subst (λ (k : Kind). AreLoadedOf bodies order root k h.branches) is h.loaded, h.many)

  none_many : AreMany [] → ⊥
  none_many (inl more) = absurd (omega (arith, more))
  none_many (inr long) = absurd (omega (arith, long))

  front_length : (rest : List ℕ) → length rest ≡ 23 → length (codes "revision" ++ 32 ∷ (codes "refs/heads/main" ++ 0 ∷ rest)) ≡ 48
  front_length rest e = omega (arith, e)

  main_length : length root.id ≡ 20 → root.kind ≡ RevisionKind → length (snapshot_text (main_branch root ∷ [])) ≡ 48
  main_length id kind =
      ap (λ (k : Kind). length (snapshot_text (main_branch (record { kind = k; id = root.id }) ∷ []))) kind
      ∙ front_length ((decimal (length root.id) ++ 58 ∷ root.id) ++ []) (ap length (append-nil (decimal (length root.id) ++ 58 ∷ root.id)) ∙ sized root.id id)

  main_few : length root.id ≡ 20 → root.kind ≡ RevisionKind → AreMany (main_branch root ∷ []) → ⊥
  main_few id kind (inl more) = absurd (omega (arith, more))
  main_few id kind (inr long) = let is = main_length id kind in absurd (omega (arith, long, is))

  pub content_few : root.kind ≡ Content → LoadsMany bodies order root → ⊥
  content_few is h = let of = of_loads Content is h in none_many (subst AreMany of.1 of.2)

  pub directory_few : root.kind ≡ Directory → LoadsMany bodies order root → ⊥
  directory_few is h = let of = of_loads Directory is h in none_many (subst AreMany of.1 of.2)

  pub revision_few : length root.id ≡ 20 → root.kind ≡ RevisionKind → LoadsMany bodies order root → ⊥
  revision_few id is h = let of = of_loads RevisionKind is h in main_few id is (subst AreMany of.1 of.2)
