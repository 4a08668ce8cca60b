-- What is found among tags, and among the tips that they are.
use Rattle.std.proofs.Common.{◌≡◌, ◌≢◌, ◌⊎◌, inl, inr, ℕ, Bool, true, false, cond, List, [], ◌∷◌, ◌++◌, map, Option, Some, Contains, refl, sym, ap, ◌∙◌, subst}
use Rattle.std.specs.Ordering.{nat_cmp}
use Rattle.std.specs.Cmp.{Equal-is}
use Rattle.std.specs.Cmp.Lexicographic.{slice_cmp}
use Rattle.std.specs.BTreeMap.{insert_entry, is_at}
use Rattle.std.specs.Map.{lookup}
use Rattle.std.specs.FinMap.{IsAntisymmetric, nat_cmp-IsAntisymmetric, slice_cmp-IsAntisymmetric}
use Rattle.std.proofs.lemmas.Cmp.{nat_list_cmp_total}
use Rattle.swh_base.specs.declared.kind.Kind.{Kind}
use Rattle.swh_base.specs.declared.kind.Kind.TheVariants.{Content, Directory as DirectoryKind, Revision as RevisionKind, Release as ReleaseKind, Snapshot as SnapshotKind}
use Rattle.swh_base.specs.declared.name.Name.{Name}
use Rattle.swh_base.specs.Release.{Release, IsRelease}
use Rattle.swh_base.specs.Snapshot.{SnapshotBranch}
use Rattle.swh_base.proofs.RevisionLemmas.{one_release}
use Rattle.swh_base.proofs.Elementary.{none_in}
use Rattle.swh_model.specs.Archive.{Bodies}
use Rattle.swh_graph.specs.Holding.{HoldsRelease}
use Rattle.swh_graph.proofs.Lists.{in_first, in_rest, in_cases}
use Rattle.swh_fastcarried.specs.Rules.{tag_branch}
use Rattle.swh_fastcarried.proofs.Reaching.{same_object}
use Rattle.swh_fastmeaning.specs.Commands.{Target}
use Rattle.swh_fastmeaning.specs.Snapshots.{tip_branch}
use Rattle.swh_fastcook.specs.Loaded.{Tags, SetsTag, SetTags, branch_of_tag, release_name}
use Rattle.swh_roundtrip.proofs.AimMaps.{at_self, insert-own, insert-other}
use Rattle.swh_roundtrip.proofs.Tipping.{Tips, first_same, same_key}
use Rattle.swh_roundtrip.proofs.GoodRows.{same_body}

abbrev pub text_exact : IsAntisymmetric (slice_cmp nat_cmp)
text_exact = slice_cmp-IsAntisymmetric nat_cmp-IsAntisymmetric

-- whether two texts are the same
pub same_text : (a b : List ℕ) → (a ≡ b) ⊎ (a ≢ b)
same_text a b = by_bool (is_at (slice_cmp nat_cmp a) b) refl
  where
    by_bool : (x : Bool) → is_at (slice_cmp nat_cmp a) b ≡ x → (a ≡ b) ⊎ (a ≢ b)
    by_bool true e = inl (text_exact a b ((Equal-is (slice_cmp nat_cmp a b)).0 e))
    by_bool false e = inr (λ same. (let t : is_at (slice_cmp nat_cmp a) b ≡ true = subst (λ (y : List ℕ). is_at (slice_cmp nat_cmp a) y ≡ true) same (at_self (slice_cmp nat_cmp) nat_list_cmp_total text_exact a) in let bad : true ≡ false = sym t ∙ e in cc))

pub some_is : {X : Type 0} (a b : X) → Some a ≡ Some b → a ≡ b
some_is a b e = cc

-- ## Tips and tags

pub record IsTagTip (tags : Tags) (q : List ℕ) (t : Target) : Type 0 where
  pub tag : List ℕ
  pub id : List ℕ
  pub key : q ≡ tag_branch tag
  pub found : lookup (is_at (slice_cmp nat_cmp tag)) tags ≡ Some id
  pub named : t.name ≡ release_name id

same_name : (e : List ℕ × Target) (x : List ℕ × List ℕ) → tip_branch e ≡ branch_of_tag x → e.1.name ≡ release_name x.1
same_name e x h = same_object e.1.name (release_name x.1) (ap (λ (b : SnapshotBranch). b.target) h)

own_found : (x : List ℕ × List ℕ) (xs : Tags) → lookup (is_at (slice_cmp nat_cmp x.0)) (x ∷ xs) ≡ Some x.1
own_found x xs = ap (λ (b : Bool). cond b (Some x.1) (lookup (is_at (slice_cmp nat_cmp x.0)) xs)) (at_self (slice_cmp nat_cmp) nat_list_cmp_total text_exact x.0)

rest_by : (b : Bool) (q : List ℕ) (t : Target) (e : List ℕ × Target) (es : Tips) (x : List ℕ × List ℕ) (xs : Tags) → is_at (slice_cmp nat_cmp q) e.0 ≡ b → tip_branch e ≡ branch_of_tag x → cond b (Some e.1) (lookup (is_at (slice_cmp nat_cmp q)) es) ≡ Some t
    → (lookup (is_at (slice_cmp nat_cmp q)) es ≡ Some t → IsTagTip xs q t) → IsTagTip (x ∷ xs) q t
rest_by true q t e es x xs is one h ih =
    let value : e.1 ≡ t = some_is e.1 t h in
    record { tag = x.0; id = x.1; key = text_exact q e.0 ((Equal-is (slice_cmp nat_cmp q e.0)).0 is) ∙ same_key e x one; found = own_found x xs; named = ap (λ (y : Target). y.name) (sym value) ∙ same_name e x one }
rest_by false q t e es x xs is one h ih =
    let r = ih h in
    let keys : is_at (slice_cmp nat_cmp (tag_branch r.tag)) (tag_branch x.0) ≡ false =
    subst (λ (k : List ℕ). is_at (slice_cmp nat_cmp k) (tag_branch x.0) ≡ false) r.key (subst (λ (k : List ℕ). is_at (slice_cmp nat_cmp q) k ≡ false) (same_key e x one) is) in
    record { tag = r.tag; id = r.id; key = r.key; found = ap (λ (b : Bool). cond b (Some x.1) (lookup (is_at (slice_cmp nat_cmp r.tag)) xs)) keys ∙ r.found; named = r.named }

pub rest_found : (rest : Tips) (tags : Tags) (q : List ℕ) (t : Target) → map tip_branch rest ≡ map branch_of_tag tags → lookup (is_at (slice_cmp nat_cmp q)) rest ≡ Some t → IsTagTip tags q t
rest_found [] tags q t h found = absurd cc
rest_found (e ∷ es) [] q t h found = absurd cc
rest_found (e ∷ es) (x ∷ xs) q t h found =
    let one = first_same e es x xs h in
    rest_by (is_at (slice_cmp nat_cmp q) e.0) q t e es x xs refl one.0 found (rest_found es xs q t one.1)

pub record HasTip (rest : Tips) (tag id : List ℕ) : Type 0 where
  pub tip : Target
  pub found : lookup (is_at (slice_cmp nat_cmp (tag_branch tag))) rest ≡ Some tip
  pub named : tip.name ≡ release_name id

tip_by : (b : Bool) (tag i : List ℕ) (e : List ℕ × Target) (es : Tips) (x : List ℕ × List ℕ) (xs : Tags) → is_at (slice_cmp nat_cmp tag) x.0 ≡ b → tip_branch e ≡ branch_of_tag x → cond b (Some x.1) (lookup (is_at (slice_cmp nat_cmp tag)) xs) ≡ Some i
    → (lookup (is_at (slice_cmp nat_cmp tag)) xs ≡ Some i → HasTip es tag i) → HasTip (e ∷ es) tag i
tip_by true tag i e es x xs is one h ih =
    let value : x.1 ≡ i = some_is x.1 i h in
    let key : is_at (slice_cmp nat_cmp (tag_branch tag)) e.0 ≡ true = subst (λ (k : List ℕ). is_at (slice_cmp nat_cmp (tag_branch tag)) k ≡ true) (sym (same_key e x one)) is in
    record { tip = e.1; found = ap (λ (b : Bool). cond b (Some e.1) (lookup (is_at (slice_cmp nat_cmp (tag_branch tag))) es)) key; named = same_name e x one ∙ ap release_name value }
tip_by false tag i e es x xs is one h ih =
    let r = ih h in
    let key : is_at (slice_cmp nat_cmp (tag_branch tag)) e.0 ≡ false = subst (λ (k : List ℕ). is_at (slice_cmp nat_cmp (tag_branch tag)) k ≡ false) (sym (same_key e x one)) is in
    record { tip = r.tip; found = ap (λ (b : Bool). cond b (Some e.1) (lookup (is_at (slice_cmp nat_cmp (tag_branch tag))) es)) key ∙ r.found; named = r.named }

pub tag_found : (rest : Tips) (tags : Tags) (tag i : List ℕ) → map tip_branch rest ≡ map branch_of_tag tags → lookup (is_at (slice_cmp nat_cmp tag)) tags ≡ Some i → HasTip rest tag i
tag_found rest [] tag i h found = absurd cc
tag_found [] (x ∷ xs) tag i h found = absurd cc
tag_found (e ∷ es) (x ∷ xs) tag i h found =
    let one = first_same e es x xs h in
    tip_by (is_at (slice_cmp nat_cmp tag) x.0) tag i e es x xs refl one.0 found (tag_found es xs tag i one.1)

-- ## Tags of names

module _ (bodies : Bodies) where
  pub one_held : (n : Name) (r s : Release) → HoldsRelease bodies n r → HoldsRelease bodies n s → r ≡ s
  one_held n r s h k = one_release k.body r s (subst (λ (b : List ℕ). IsRelease b r) (same_body h.body k.body (sym h.held ∙ k.held)) h.is) k.is

  -- One of the names is a release with this id, of this name.
  pub record SetBy (names : List Name) (tag i : List ℕ) : Type 0 where
    pub name : Name
    pub there : Contains names name
    pub kind : name.kind ≡ ReleaseKind
    pub id : name.id ≡ i
    pub release : Release
    pub holds : HoldsRelease bodies name release
    pub tagged : release.tag ≡ tag

  abbrev found_at : List ℕ → Tags → Option (List ℕ)
  found_at tag tags = lookup (is_at (slice_cmp nat_cmp tag)) tags

  one_sound : (n : Name) (names : List Name) (kind : Kind) (old middle : Tags) (tag i : List ℕ) → n.kind ≡ kind → SetsTag bodies n kind old middle → found_at tag middle ≡ Some i → (found_at tag old ≡ Some i) ⊎ SetBy (n ∷ names) tag i
  one_sound n names Content old middle tag i e s found = inl (ap (found_at tag) (sym s) ∙ found)
  one_sound n names DirectoryKind old middle tag i e s found = inl (ap (found_at tag) (sym s) ∙ found)
  one_sound n names RevisionKind old middle tag i e s found = inl (ap (found_at tag) (sym s) ∙ found)
  one_sound n names ReleaseKind old middle tag i e (r, holds, is) found =
      elim (same_text tag r.tag) [
        | inl same ↦
            let own : found_at tag middle ≡ Some n.id = ap (found_at tag) is ∙ subst (λ (k : List ℕ). found_at k (insert_entry (slice_cmp nat_cmp) old r.tag n.id) ≡ Some n.id) (sym same) (insert-own (slice_cmp nat_cmp) nat_list_cmp_total text_exact old r.tag n.id) in
            inr (record { name = n; there = in_first n names; kind = e; id = some_is n.id i (sym own ∙ found); release = r; holds = holds; tagged = sym same })
        | inr other ↦ inl (sym (insert-other (slice_cmp nat_cmp) nat_list_cmp_total text_exact old r.tag tag n.id other) ∙ ap (found_at tag) (sym is) ∙ found)
      ]
  one_sound n names SnapshotKind old middle tag i e s found = inl (ap (found_at tag) (sym s) ∙ found)

  pub tag_sound : (names : List Name) (old new : Tags) (tag i : List ℕ) → SetTags bodies names old new → found_at tag new ≡ Some i → (found_at tag old ≡ Some i) ⊎ SetBy names tag i
  tag_sound [] old new tag i s found = inl (ap (found_at tag) (sym s) ∙ found)
  tag_sound (n ∷ names) old new tag i (middle, one, more) found =
      elim (tag_sound names middle new tag i more found) [
        | inl was ↦ one_sound n names n.kind old middle tag i refl one was
        | inr s ↦ inr (record { name = s.name; there = in_rest n names s.name s.there; kind = s.kind; id = s.id; release = s.release; holds = s.holds; tagged = s.tagged })
      ]

  one_kept : (n : Name) (kind : Kind) (old middle : Tags) (tag i : List ℕ) → SetsTag bodies n kind old middle → found_at tag old ≡ Some i → (j : List ℕ) × (found_at tag middle ≡ Some j)
  one_kept n Content old middle tag i s found = (i, ap (found_at tag) s ∙ found)
  one_kept n DirectoryKind old middle tag i s found = (i, ap (found_at tag) s ∙ found)
  one_kept n RevisionKind old middle tag i s found = (i, ap (found_at tag) s ∙ found)
  one_kept n ReleaseKind old middle tag i (r, holds, is) found =
      elim (same_text tag r.tag) [
        | inl same ↦ (n.id, ap (found_at tag) is ∙ subst (λ (k : List ℕ). found_at k (insert_entry (slice_cmp nat_cmp) old r.tag n.id) ≡ Some n.id) (sym same) (insert-own (slice_cmp nat_cmp) nat_list_cmp_total text_exact old r.tag n.id))
        | inr other ↦ (i, ap (found_at tag) is ∙ insert-other (slice_cmp nat_cmp) nat_list_cmp_total text_exact old r.tag tag n.id other ∙ found)
      ]
  one_kept n SnapshotKind old middle tag i s found = (i, ap (found_at tag) s ∙ found)

  tag_kept : (names : List Name) (old new : Tags) (tag i : List ℕ) → SetTags bodies names old new → found_at tag old ≡ Some i → (j : List ℕ) × (found_at tag new ≡ Some j)
  tag_kept [] old new tag i s found = (i, ap (found_at tag) s ∙ found)
  tag_kept (n ∷ names) old new tag i (middle, one, more) found = let k = one_kept n n.kind old middle tag i one found in tag_kept names middle new tag k.0 more k.1

  own_set : (n : Name) (kind : Kind) (old middle : Tags) (r : Release) → kind ≡ ReleaseKind → HoldsRelease bodies n r → SetsTag bodies n kind old middle → found_at r.tag middle ≡ Some n.id
  own_set n kind old middle r e holds s =
      let one = subst (λ (k : Kind). SetsTag bodies n k old middle) e s in
      let same : one.0 ≡ r = one_held n one.0 r one.1 holds in
      ap (found_at r.tag) one.2 ∙ subst (λ (x : Release). found_at r.tag (insert_entry (slice_cmp nat_cmp) old x.tag n.id) ≡ Some n.id) (sym same) (insert-own (slice_cmp nat_cmp) nat_list_cmp_total text_exact old r.tag n.id)

  -- each release among the names has set the tag of its name
  pub tag_full : (names : List Name) (old new : Tags) (n : Name) (r : Release) → SetTags bodies names old new → Contains names n → n.kind ≡ ReleaseKind → HoldsRelease bodies n r → (j : List ℕ) × (found_at r.tag new ≡ Some j)
  tag_full [] old new n r s there kind holds = absurd (none_in n there)
  tag_full (m ∷ names) old new n r (middle, one, more) there kind holds =
      elim (in_cases m names n there) [
        | inl same ↦ tag_kept names middle new r.tag m.id more (own_set m m.kind old middle r (ap (λ (x : Name). x.kind) same ∙ kind) (subst (λ (x : Name). HoldsRelease bodies x r) (sym same) holds) one)
        | inr later ↦ tag_full names middle new n r more later kind holds
      ]

  -- and the last of them stands there
  pub tag_last : (front : List Name) (old new : Tags) (n : Name) (r : Release) → SetTags bodies (front ++ n ∷ []) old new → n.kind ≡ ReleaseKind → HoldsRelease bodies n r → found_at r.tag new ≡ Some n.id
  tag_last [] old new n r (middle, one, is) kind holds = ap (found_at r.tag) is ∙ own_set n n.kind old middle r kind holds one
  tag_last (m ∷ front) old new n r (middle, one, more) kind holds = tag_last front middle new n r more kind holds
