-- The first rule of a stream that a name breaks, by the kind of the name.
use Rattle.std.proofs.Common.{◌≡◌, ◌≢◌, ◌⊎◌, ℕ, ◌<◌, Option, Some, None, List, sym, ◌∙◌, arith}
use Rattle.swh_base.specs.declared.kind.Kind.{Kind}
use Rattle.swh_base.specs.declared.kind.Kind.TheVariants.{Content as ContentKind, Directory as DirectoryKind, Revision as RevisionKind, Release as ReleaseKind, Snapshot as SnapshotKind}
use Rattle.swh_base.specs.declared.name.Name.{Name}
use Rattle.swh_model.specs.Archive.{Bodies}
use Rattle.swh_carried.specs.declared.fault.Why.{Why}
use Rattle.swh_carried.specs.declared.fault.Why.TheVariants.{Cycle, Revision, Release, Empty, Dots, Text, Path, Branch, Tagless, Refs, Length}
use Rattle.swh_carried.specs.Rules.{HasLongPath}
use Rattle.swh_carried.specs.Uncarried.{rule_number, BreaksNone}
use Rattle.swh_fastcarried.specs.Rules.{IsOddRelease, IsRevisionRoot, HasOddBranch, StandsAtBranch, BreaksIn}
use Rattle.swh_fastcarried.specs.First.{IsFirstRule}

-- kinds that differ
other : {P : Type 0} (k l : Kind) (n : Name) → (k ≡ l → ⊥) → n.kind ≡ k → n.kind ≡ l → P
other k l n apart a b = absurd (apart (sym a ∙ b))

rel_rev : ReleaseKind ≡ RevisionKind → ⊥
rel_rev e = cc

rel_dir : ReleaseKind ≡ DirectoryKind → ⊥
rel_dir e = cc

rel_snp : ReleaseKind ≡ SnapshotKind → ⊥
rel_snp e = cc

snp_rev : SnapshotKind ≡ RevisionKind → ⊥
snp_rev e = cc

snp_rel : SnapshotKind ≡ ReleaseKind → ⊥
snp_rel e = cc

snp_dir : SnapshotKind ≡ DirectoryKind → ⊥
snp_dir e = cc

cnt_rev : ContentKind ≡ RevisionKind → ⊥
cnt_rev e = cc

cnt_rel : ContentKind ≡ ReleaseKind → ⊥
cnt_rel e = cc

cnt_dir : ContentKind ≡ DirectoryKind → ⊥
cnt_dir e = cc

cnt_snp : ContentKind ≡ SnapshotKind → ⊥
cnt_snp e = cc

module _ (bodies : Bodies) (root : Name) (order : List Name) (name : Name) where
  abbrev B : Why → Type 0
  B why = BreaksIn bodies root order ⊥ ⊥ name why

  abbrev P : Type 0
  P = HasLongPath bodies (IsRevisionRoot bodies order) name

  of_content : name.kind ≡ ContentKind → BreaksNone (BreaksIn bodies root order ⊥ ⊥) name
  of_content k Cycle h = h
  of_content k Revision h = other ContentKind RevisionKind name cnt_rev k h.kind
  of_content k Release h = other ContentKind ReleaseKind name cnt_rel k h.kind
  of_content k Empty h = other ContentKind DirectoryKind name cnt_dir k h.kind
  of_content k Dots h = other ContentKind DirectoryKind name cnt_dir k h.is_entry.kind
  of_content k Text h = h
  of_content k Path h = other ContentKind DirectoryKind name cnt_dir k h.is_entry.kind
  of_content k Branch h = other ContentKind SnapshotKind name cnt_snp k h.0
  of_content k Tagless h = other ContentKind ReleaseKind name cnt_rel k h.1
  of_content k Refs h = h.1
  of_content k Length h = h.1

  abbrev T : Type 0
  T = (root.kind ≡ SnapshotKind) × (name.kind ≡ ReleaseKind) × (StandsAtBranch bodies root name → ⊥)

  rel_below : name.kind ≡ ReleaseKind → (n : ℕ) → (2 < n → IsOddRelease bodies name → ⊥) → (8 < n → T → ⊥) → (why : Why) → rule_number why < n → B why → ⊥
  rel_below k n r t Cycle less h = h
  rel_below k n r t Revision less h = other ReleaseKind RevisionKind name rel_rev k h.kind
  rel_below k n r t Release less h = r less h
  rel_below k n r t Empty less h = other ReleaseKind DirectoryKind name rel_dir k h.kind
  rel_below k n r t Dots less h = other ReleaseKind DirectoryKind name rel_dir k h.is_entry.kind
  rel_below k n r t Text less h = h
  rel_below k n r t Path less h = other ReleaseKind DirectoryKind name rel_dir k h.is_entry.kind
  rel_below k n r t Branch less h = other ReleaseKind SnapshotKind name rel_snp k h.0
  rel_below k n r t Tagless less h = t less h
  rel_below k n r t Refs less h = h.1
  rel_below k n r t Length less h = h.1

  snp_below : name.kind ≡ SnapshotKind → (n : ℕ) → (7 < n → (name ≢ root) ⊎ HasOddBranch bodies root name → ⊥) → (why : Why) → rule_number why < n → B why → ⊥
  snp_below k n b Cycle less h = h
  snp_below k n b Revision less h = other SnapshotKind RevisionKind name snp_rev k h.kind
  snp_below k n b Release less h = other SnapshotKind ReleaseKind name snp_rel k h.kind
  snp_below k n b Empty less h = other SnapshotKind DirectoryKind name snp_dir k h.kind
  snp_below k n b Dots less h = other SnapshotKind DirectoryKind name snp_dir k h.is_entry.kind
  snp_below k n b Text less h = h
  snp_below k n b Path less h = other SnapshotKind DirectoryKind name snp_dir k h.is_entry.kind
  snp_below k n b Branch less h = b less h.1
  snp_below k n b Tagless less h = other SnapshotKind ReleaseKind name snp_rel k h.1
  snp_below k n b Refs less h = h.1
  snp_below k n b Length less h = h.1

  few : (why : Why) → rule_number why < 11
  few Cycle = omega arith
  few Revision = omega arith
  few Release = omega arith
  few Empty = omega arith
  few Dots = omega arith
  few Text = omega arith
  few Path = omega arith
  few Branch = omega arith
  few Tagless = omega arith
  few Refs = omega arith
  few Length = omega arith

  abbrev Rule : Option Why → Type 0
  Rule rule = IsFirstRule (BreaksIn bodies root order ⊥ ⊥) name rule

  pub rule_none : name.kind ≡ ContentKind → Rule None
  rule_none k = of_content k

  pub rule_tagless : name.kind ≡ ReleaseKind → (IsOddRelease bodies name → ⊥) → root.kind ≡ SnapshotKind → (StandsAtBranch bodies root name → ⊥) → Rule (Some Tagless)
  rule_tagless k plain top not = record { is = (top, k, not); none = rel_below k 8 (λ _. plain) (λ l. absurd (omega (arith, l))) }

  pub rule_snp_none : name.kind ≡ SnapshotKind → ((name ≢ root) ⊎ HasOddBranch bodies root name → ⊥) → Rule None
  rule_snp_none k plain = λ why. snp_below k 11 (λ _. plain) why (few why)

  module _ (many : Type 0) where
    abbrev M : Why → Type 0
    M why = BreaksIn bodies root order many ⊥ name why

    back_many : (why : Why) → ((name ≡ root) × many → ⊥) → M why → B why
    back_many Cycle not h = h
    back_many Revision not h = h
    back_many Release not h = h
    back_many Empty not h = h
    back_many Dots not h = h
    back_many Text not h = h
    back_many Path not h = h
    back_many Branch not h = h
    back_many Tagless not h = h
    back_many Refs not h = absurd (not h)
    back_many Length not h = h

    pub many_refs : Rule None → name ≡ root → many → IsFirstRule (BreaksIn bodies root order many ⊥) name (Some Refs)
    many_refs none same is = record { is = (same, is); none = λ o less m. refs_below o less m }
      where
        refs_below : (o : Why) → rule_number o < 9 → M o → ⊥
        refs_below Cycle less m = none Cycle m
        refs_below Revision less m = none Revision m
        refs_below Release less m = none Release m
        refs_below Empty less m = none Empty m
        refs_below Dots less m = none Dots m
        refs_below Text less m = none Text m
        refs_below Path less m = none Path m
        refs_below Branch less m = none Branch m
        refs_below Tagless less m = none Tagless m
        refs_below Refs less m = absurd (omega (arith, less))
        refs_below Length less m = absurd (omega (arith, less))

    pub many_none : Rule None → ((name ≡ root) × many → ⊥) → IsFirstRule (BreaksIn bodies root order many ⊥) name None
    many_none none not why m = none why (back_many why not m)
