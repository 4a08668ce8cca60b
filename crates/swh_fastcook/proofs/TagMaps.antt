-- The tags that a stream makes.
use Rattle.std.proofs.Common.{◌≡◌, inl, inr, ℕ, suc, ◌+◌, ◌<◌, ◌≤◌, Bool, List, [], ◌∷◌, ◌++◌, length, take, get_or, map, refl, sym, ap, ◌∙◌, subst, arith, codes, length-append}
use Rattle.std.specs.Prelude.{◌↔◌, IsTrue, decimal}
use Rattle.std.specs.BTreeMap.{insert_entry}
use Rattle.std.specs.Borrow.{Bor}
use Rattle.std.specs.Cmp.Lexicographic.{slice_cmp}
use Rattle.std.specs.Fmt.{digits}
use Rattle.std.specs.Ordering.{nat_cmp, match_ordering}
use Rattle.std.specs.declared.cmp.Ordering.TheVariants.{Less, Equal, Greater}
use Rattle.std.proofs.lemmas.List.{take_more}
use Rattle.std.proofs.lemmas.List.Concat.{flat_map-cons}
use Rattle.swh_base.specs.declared.kind.Kind.{Kind}
use Rattle.swh_base.specs.declared.kind.Kind.TheVariants.{Content, Directory, Revision as RevisionKind, Release as ReleaseKind, Snapshot}
use Rattle.swh_base.specs.declared.name.Name.{Name}
use Rattle.swh_base.specs.Limits.{body_limit}
use Rattle.swh_base.specs.Release.{Release, IsRelease}
use Rattle.swh_base.specs.Snapshot.{branch_text, snapshot_text}
use Rattle.swh_base.proofs.RevisionLemmas.{one_release}
use Rattle.swh_model.specs.Archive.{Bodies}
use Rattle.swh_graph.specs.Holding.{HoldsRelease}
use Rattle.swh_graph.proofs.Lists.{same_some}
use Rattle.swh_fastcook.specs.Loaded.{Tags, SetsTag, SetTags, branch_of_tag, without_head, AreMany, tags_in}

module _ (bodies : Bodies) where
  -- one name more
  set_behind : (ns : List Name) (n : Name) (old mid new : Tags) → SetTags bodies ns old mid → SetsTag bodies n n.kind mid new → SetTags bodies (ns ++ n ∷ []) old new
  set_behind [] n old mid new e s = (new, subst (λ (t : Tags). SetsTag bodies n n.kind t new) e s, refl)
  set_behind (m ∷ ns) n old mid new (x, a, b) s = (x, a, set_behind ns n x mid new b s)

  pub tags_more : (order : List Name) (i : ℕ) (d : Name) → i < length order → (old mid new : Tags) → SetTags bodies (take i order) old mid → SetsTag bodies (get_or order i d) (get_or order i d).kind mid new → SetTags bodies (take (i + 1) order) old new
  tags_more order i d within old mid new so s = subst (λ (ns : List Name). SetTags bodies ns old new) (sym (take_more order i d within)) (set_behind (take i order) (get_or order i d) old mid new so s)

  same_release : (name : Name) (r s : Release) → HoldsRelease bodies name r → HoldsRelease bodies name s → r ≡ s
  same_release name r s h k = one_release k.body r s (subst (λ (b : List ℕ). IsRelease b r) (same_some h.body k.body (sym h.held ∙ k.held)) h.is) k.is

  one_tag : (name : Name) (kind : Kind) (old a b : Tags) → SetsTag bodies name kind old a → SetsTag bodies name kind old b → a ≡ b
  one_tag name Content old a b h k = h ∙ sym k
  one_tag name Directory old a b h k = h ∙ sym k
  one_tag name RevisionKind old a b h k = h ∙ sym k
  one_tag name ReleaseKind old a b (r, h, e) (s, k, f) = e ∙ ap (λ (x : Release). insert_entry (slice_cmp nat_cmp) old x.tag name.id) (same_release name r s h k) ∙ sym f
  one_tag name Snapshot old a b h k = h ∙ sym k

  -- there is one map of the tags
  pub one_tags : (ns : List Name) (old a b : Tags) → SetTags bodies ns old a → SetTags bodies ns old b → a ≡ b
  one_tags [] old a b h k = h ∙ sym k
  one_tags (n ∷ ns) old a b (x, s, h) (y, t, k) =
      one_tags ns y a b (subst (λ (o : Tags). SetTags bodies ns o a) (one_tag n n.kind old x y s t) h) k

-- one entry more, where the keys stand in bodies
pub insert_in : (es : List (Bor (List ℕ) × List ℕ)) (k : Bor (List ℕ)) (v : List ℕ) → insert_entry (slice_cmp nat_cmp) (tags_in es) k.now v ≡ tags_in (insert_entry (λ (a b : Bor (List ℕ)). slice_cmp nat_cmp a.now b.now) es k v)
insert_in [] k v = refl
insert_in (e ∷ es) k v =
    elim (slice_cmp nat_cmp k.now e.0.now) as (λ o. match_ordering o ((k.now, v) ∷ (e.0.now, e.1) ∷ tags_in es) ((e.0.now, v) ∷ tags_in es) ((e.0.now, e.1) ∷ insert_entry (slice_cmp nat_cmp) (tags_in es) k.now v)
    ≡ tags_in (match_ordering o ((k, v) ∷ e ∷ es) ((e.0, v) ∷ es) (e ∷ insert_entry (λ (a b : Bor (List ℕ)). slice_cmp nat_cmp a.now b.now) es k v))) [
      | Less ↦ refl
      | Equal ↦ refl
      | Greater ↦ ap (λ (t : Tags). (e.0.now, e.1) ∷ t) (insert_in es k v)
    ]

-- ---- how long the snapshot of the tags is

pub decimal-20 : decimal 20 ≡ codes "20"
unfolding digits
decimal-20 = refl

-- the length of an id, and the id
pub sized : (id : List ℕ) → length id ≡ 20 → length (decimal (length id) ++ 58 ∷ id) ≡ 23
sized id e = ap (λ (n : ℕ). length (decimal n ++ 58 ∷ id)) e ∙ ap (λ (x : List ℕ). length (x ++ 58 ∷ id)) decimal-20 ∙ omega (arith, e)

front_length : (tag rest : List ℕ) → length rest ≡ 23 → length (codes "release" ++ 32 ∷ ((codes "refs/tags/" ++ tag) ++ 0 ∷ rest)) ≡ length tag + 42
front_length tag rest e = let cut = length-append tag (0 ∷ rest) in omega (arith, cut, e)

-- how long one branch is
pub tag_length : (tag id : List ℕ) → length id ≡ 20 → length (branch_text (branch_of_tag (tag, id))) ≡ length tag + 42
tag_length tag id e = front_length tag (decimal (length id) ++ 58 ∷ id) (sized id e)

-- how long that of all is
abbrev pub tags_length : List (Bor (List ℕ) × List ℕ) → ℕ
tags_length es = length (snapshot_text (map branch_of_tag (tags_in es)))

pub tags_step : (e : Bor (List ℕ) × List ℕ) (es : List (Bor (List ℕ) × List ℕ)) → tags_length (e ∷ es) ≡ length (branch_text (branch_of_tag (e.0.now, e.1))) + tags_length es
tags_step e es =
    ap length (flat_map-cons branch_text (branch_of_tag (e.0.now, e.1)) (map branch_of_tag (tags_in es)))
    ∙ length-append (branch_text (branch_of_tag (e.0.now, e.1))) (snapshot_text (map branch_of_tag (tags_in es)))

-- no branch of a tag is the head
pub no_heads : (tags : Tags) → length (without_head (map branch_of_tag tags)) ≡ length tags
no_heads [] = refl
no_heads (t ∷ ts) = ap (λ (n : ℕ). suc n) (no_heads ts)

pub tags_in_length : (es : List (Bor (List ℕ) × List ℕ)) → length (tags_in es) ≡ length es
tags_in_length [] = refl
tags_in_length (e ∷ es) = ap (λ (n : ℕ). suc n) (tags_in_length es)

-- ---- whether the tags are many

module _ (bodies : Bodies) (order : List Name) (tags : Tags) (set : SetTags bodies order [] tags) where
  pub many_by : AreMany (map branch_of_tag tags) → (others : Tags) × SetTags bodies order [] others × AreMany (map branch_of_tag others)
  many_by many = (tags, set, many)

  pub by_many : ((others : Tags) × SetTags bodies order [] others × AreMany (map branch_of_tag others)) → AreMany (map branch_of_tag tags)
  by_many (others, also, many) = subst (λ (t : Tags). AreMany (map branch_of_tag t)) (one_tags bodies order [] others tags also set) many

  -- few branches are many only where their text is long
  long_of : (length tags ≤ 65536) → AreMany (map branch_of_tag tags) → body_limit < length (snapshot_text (map branch_of_tag tags))
  long_of few (inl more) = let same = no_heads tags in absurd (omega (arith, few, more, same))
  long_of few (inr long) = long

  pub many_same : (long : Bool) → length tags ≤ 65536 → IsTrue long ↔ (body_limit < length (snapshot_text (map branch_of_tag tags)))
      → IsTrue long ↔ ((others : Tags) × SetTags bodies order [] others × AreMany (map branch_of_tag others))
  many_same long few both = (λ is. many_by (inr (both.0 is)), λ h. both.1 (long_of few (by_many h)))
