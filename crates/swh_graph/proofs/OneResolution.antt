-- A SWHID resolves in one way.
use Rattle.std.proofs.Common.{◌≡◌, ◌⊎◌, inl, inr, ℕ, None, List, [], ◌∷◌, ◌++◌, refl, sym, ap, ◌∙◌, subst}
use Rattle.std.specs.Prelude.{Contains}
use Rattle.std.specs.List.{AllByRecursion}
use Rattle.swh_base.specs.declared.name.Name.{Name}
use Rattle.swh_base.specs.Directory.{DirectoryEntry}
use Rattle.swh_model.specs.Archive.{Bodies, body_of, IsHeld}
use Rattle.swh_swhid.specs.declared.swhid.Swhid.{Swhid}
use Rattle.swh_graph.specs.Answer.{GraphAnswer, Found, Missing, Nowhere}
use Rattle.swh_graph.specs.Path.{target_of, Follows, IsEntryAt, IsPathGap, IsPathEnd}
use Rattle.swh_graph.specs.Resolve.{names_in, behind_slash, IsFirstMissing, AreComponentsOf, HasWay, LeadsTo, IsWayGap, EndsElsewhere, IsWayEnd, Resolves, MissesOnWay, EndsOnWay, IsResolveAnswer}
use Rattle.swh_graph.proofs.Lists.{in_middle, all_of, same_some, not_none}
use Rattle.swh_graph.proofs.OnePath.{same_components, one_follows, one_entry_lem}
use Rattle.swh_graph.proofs.OneRoot.{one_root, one_gap, root_or_gap}

pub same_components_of : (path : List ℕ) (cs ds : List (List ℕ)) → AreComponentsOf path cs → AreComponentsOf path ds → cs ≡ ds
same_components_of path cs ds (inl a) (inl b) = a.1 ∙ sym b.1
same_components_of path cs ds (inl a) (inr b) = absurd (b.0 a.0)
same_components_of path cs ds (inr a) (inl b) = absurd (a.0 b.0)
same_components_of path cs ds (inr a) (inr b) = same_components (behind_slash path) cs ds a.1 b.1

-- the anchor and the components of a SWHID
record SameWay (a b : Name) (cs ds : List (List ℕ)) : Type 0 where
  anchor : a ≡ b
  components : cs ≡ ds

one_way : (s : Swhid) (a b : Name) (cs ds : List (List ℕ)) → HasWay s a cs → HasWay s b ds → SameWay a b cs ds
one_way s a b cs ds x y =
    let path : x.path ≡ y.path = same_some x.path y.path (sym x.path_is ∙ y.path_is) in
    record {
      anchor = same_some a b (sym x.anchor_is ∙ y.anchor_is);
      components = same_components_of y.path cs ds (subst (λ (p : List ℕ). AreComponentsOf p cs) path x.are) y.are;
    }

module _ (bodies : Bodies) where
  first_missing : (e f l m : List Name) (a b : Name) → e ++ a ∷ l ≡ f ++ b ∷ m → AllByRecursion (IsHeld bodies) e → AllByRecursion (IsHeld bodies) f
      → body_of bodies a ≡ None → body_of bodies b ≡ None → a ≡ b
  first_missing [] [] l m a b same held held' missing missing' = cc
  first_missing [] (y ∷ f) l m a b same held held' missing missing' =
      let is : y ≡ a = cc in
      let h = subst (IsHeld bodies) is held'.0 in
      absurd (not_none (body_of bodies a) h.0 h.1 missing)
  first_missing (x ∷ e) [] l m a b same held held' missing missing' =
      let is : x ≡ b = cc in
      let h = subst (IsHeld bodies) is held.0 in
      absurd (not_none (body_of bodies b) h.0 h.1 missing')
  first_missing (x ∷ e) (y ∷ f) l m a b same held held' missing missing' =
      let rest : e ++ a ∷ l ≡ f ++ b ∷ m = cc in
      first_missing e f l m a b rest held.1 held'.1 missing missing'

  pub one_missing : (ns : List Name) (a b : Name) → IsFirstMissing bodies ns a → IsFirstMissing bodies ns b → a ≡ b
  one_missing ns a b x y = first_missing x.before y.before x.behind y.behind a b (sym x.cut ∙ y.cut) x.held y.held x.missing y.missing

  pub held_or_missing : (ns : List Name) (a : Name) → AllByRecursion (IsHeld bodies) ns → IsFirstMissing bodies ns a → ⊥
  held_or_missing ns a held x =
      let there : Contains ns a = subst (λ (xs : List Name). Contains xs a) (sym x.cut) (in_middle x.before a x.behind) in
      let h = all_of (IsHeld bodies) ns a held there in
      not_none (body_of bodies a) h.0 h.1 x.missing

  -- ---- what is answered to a path from a root

  path_apart : (root : Name) (cs : List (List ℕ)) (name : Name) (k : ℕ) → IsPathGap bodies root cs name → IsPathEnd bodies root cs k → ⊥
  path_apart root cs name k x y =
      let a : GraphAnswer DirectoryEntry = Missing name in
      let b : GraphAnswer DirectoryEntry = Nowhere k in
      let same : a ≡ b = one_entry_lem bodies cs root a b x y in
      cc

  one_path_gap : (root : Name) (cs : List (List ℕ)) (a b : Name) → IsPathGap bodies root cs a → IsPathGap bodies root cs b → a ≡ b
  one_path_gap root cs a b x y =
      let p : GraphAnswer DirectoryEntry = Missing a in
      let q : GraphAnswer DirectoryEntry = Missing b in
      let same : p ≡ q = one_entry_lem bodies cs root p q x y in
      cc

  one_path_end : (root : Name) (cs : List (List ℕ)) (j k : ℕ) → IsPathEnd bodies root cs j → IsPathEnd bodies root cs k → j ≡ k
  one_path_end root cs j k x y =
      let p : GraphAnswer DirectoryEntry = Nowhere j in
      let q : GraphAnswer DirectoryEntry = Nowhere k in
      let same : p ≡ q = one_entry_lem bodies cs root p q x y in
      cc

  no_components : (before : List (List ℕ)) (c : List ℕ) (behind : List (List ℕ)) → [] ≡ before ++ c ∷ behind → ⊥
  no_components [] c behind e = cc
  no_components (b ∷ before) c behind e = cc

  -- components that lead somewhere lead to an entry
  entry_there : (cs : List (List ℕ)) (c : List ℕ) (root end : Name) → Follows bodies root (c ∷ cs) end → (e : DirectoryEntry) × IsEntryAt bodies root (c ∷ cs) e
  entry_there [] c root end x = (x.0, record { before = []; last = c; cut = refl; place = root; follows = refl; is = x.1.0 })
  entry_there (d ∷ ds) c root end x =
      let more = entry_there ds d (target_of x.0) end x.1.1 in (
        more.0,
        record {
          before = c ∷ more.1.before;
          last = more.1.last;
          cut = ap (λ (xs : List (List ℕ)). c ∷ xs) more.1.cut;
          place = more.1.place;
          follows = (x.0, (x.1.0, more.1.follows));
          is = more.1.is;
        },
      )

  gap_on_way : (root : Name) (cs : List (List ℕ)) (end name : Name) → Follows bodies root cs end → IsPathGap bodies root cs name → ⊥
  gap_on_way root [] end name x y = no_components y.before y.next y.passes.behind y.passes.cut
  gap_on_way root (c ∷ cs) end name x y =
      let there = entry_there cs c root end x in
      let a : GraphAnswer DirectoryEntry = Found there.0 in
      let b : GraphAnswer DirectoryEntry = Missing name in
      let same : a ≡ b = one_entry_lem bodies (c ∷ cs) root a b there.1 y in
      cc

  end_on_way : (root : Name) (cs : List (List ℕ)) (end : Name) (k : ℕ) → Follows bodies root cs end → IsPathEnd bodies root cs k → ⊥
  end_on_way root [] end k x y = no_components y.before y.next y.passes.behind y.passes.cut
  end_on_way root (c ∷ cs) end k x y =
      let there = entry_there cs c root end x in
      let a : GraphAnswer DirectoryEntry = Found there.0 in
      let b : GraphAnswer DirectoryEntry = Nowhere k in
      let same : a ≡ b = one_entry_lem bodies (c ∷ cs) root a b there.1 y in
      cc

  -- ---- what is answered to a way

  module _ (anchor object : Name) (cs : List (List ℕ)) where
    leads_or_gap : (name : Name) → LeadsTo bodies anchor cs object → IsWayGap bodies anchor cs name → ⊥
    leads_or_gap name x (inl gap) = root_or_gap bodies anchor x.root name x.is_root gap
    leads_or_gap name x (inr (root, (is_root, gap))) =
        let same : x.root ≡ root = one_root bodies anchor x.root root x.is_root is_root in
        gap_on_way root cs object name (subst (λ (r : Name). Follows bodies r cs object) same x.follows) gap

    leads_or_end : (k : ℕ) → LeadsTo bodies anchor cs object → IsWayEnd bodies anchor cs object k → ⊥
    leads_or_end k x (inl none) = none.0.none x.root x.is_root
    leads_or_end k x (inr (root, (is_root, end))) =
        let same : x.root ≡ root = one_root bodies anchor x.root root x.is_root is_root in
        let follows : Follows bodies root cs object = subst (λ (r : Name). Follows bodies r cs object) same x.follows in
        elim end [
          | inl stop ↦ end_on_way root cs object k follows stop
          | inr other ↦ other.other (one_follows bodies cs root other.end object other.follows follows)
        ]

    one_way_gap : (a b : Name) → IsWayGap bodies anchor cs a → IsWayGap bodies anchor cs b → a ≡ b
    one_way_gap a b (inl x) (inl y) = one_gap bodies anchor a b x y
    one_way_gap a b (inl x) (inr y) = absurd (root_or_gap bodies anchor y.0 a y.1.0 x)
    one_way_gap a b (inr x) (inl y) = absurd (root_or_gap bodies anchor x.0 b x.1.0 y)
    one_way_gap a b (inr (root, (is_root, x))) (inr (root', (is_root', y))) =
        let same : root ≡ root' = one_root bodies anchor root root' is_root is_root' in
        one_path_gap root' cs a b (subst (λ (r : Name). IsPathGap bodies r cs a) same x) y

    gap_or_end : (a : Name) (k : ℕ) → IsWayGap bodies anchor cs a → IsWayEnd bodies anchor cs object k → ⊥
    gap_or_end a k (inl x) (inl y) = y.0.whole a x
    gap_or_end a k (inl x) (inr y) = root_or_gap bodies anchor y.0 a y.1.0 x
    gap_or_end a k (inr x) (inl y) = y.0.none x.0 x.1.0
    gap_or_end a k (inr (root, (is_root, x))) (inr (root', (is_root', end))) =
        let same : root ≡ root' = one_root bodies anchor root root' is_root is_root' in
        let gap : IsPathGap bodies root' cs a = subst (λ (r : Name). IsPathGap bodies r cs a) same x in
        elim end [
          | inl stop ↦ path_apart root' cs a k gap stop
          | inr other ↦ gap_on_way root' cs other.end a other.follows gap
        ]

    one_way_end : (j k : ℕ) → IsWayEnd bodies anchor cs object j → IsWayEnd bodies anchor cs object k → j ≡ k
    one_way_end j k (inl x) (inl y) = x.1 ∙ sym y.1
    one_way_end j k (inl x) (inr y) = absurd (x.0.none y.0 y.1.0)
    one_way_end j k (inr x) (inl y) = absurd (y.0.none x.0 x.1.0)
    one_way_end j k (inr (root, (is_root, x))) (inr (root', (is_root', y))) =
        let same : root ≡ root' = one_root bodies anchor root root' is_root is_root' in
        both root' (subst (λ (r : Name). IsPathEnd bodies r cs j ⊎ EndsElsewhere bodies r cs object j) same x) y
      where
        both : (r : Name) → IsPathEnd bodies r cs j ⊎ EndsElsewhere bodies r cs object j → IsPathEnd bodies r cs k ⊎ EndsElsewhere bodies r cs object k → j ≡ k
        both r (inl p) (inl q) = one_path_end r cs j k p q
        both r (inl p) (inr q) = absurd (end_on_way r cs q.end j q.follows p)
        both r (inr p) (inl q) = absurd (end_on_way r cs p.end k p.follows q)
        both r (inr p) (inr q) = p.number_is ∙ sym q.number_is

  -- ---- what is answered to a SWHID

  module _ (s : Swhid) where
    found_or_missing : (n m : Name) → Resolves bodies s n → IsFirstMissing bodies (names_in s) m ⊎ MissesOnWay bodies s m → ⊥
    found_or_missing n m x (inl y) = held_or_missing (names_in s) m x.held y
    found_or_missing n m x (inr y) = leads_or_gap y.anchor s.core y.components m (x.leads y.anchor y.components y.way) y.gap

    found_or_end : (n : Name) (k : ℕ) → Resolves bodies s n → EndsOnWay bodies s k → ⊥
    found_or_end n k x y = leads_or_end y.anchor s.core y.components k (x.leads y.anchor y.components y.way) y.end

    missing_or_end : (m : Name) (k : ℕ) → IsFirstMissing bodies (names_in s) m ⊎ MissesOnWay bodies s m → EndsOnWay bodies s k → ⊥
    missing_or_end m k (inl x) y = held_or_missing (names_in s) m y.held x
    missing_or_end m k (inr x) y =
        let way = one_way s x.anchor y.anchor x.components y.components x.way y.way in
        let gap : IsWayGap bodies y.anchor x.components m = subst (λ (a : Name). IsWayGap bodies a x.components m) way.anchor x.gap in
        gap_or_end y.anchor s.core y.components m k (subst (λ (cs : List (List ℕ)). IsWayGap bodies y.anchor cs m) way.components gap) y.end

    one_missing_name : (a b : Name) → IsFirstMissing bodies (names_in s) a ⊎ MissesOnWay bodies s a → IsFirstMissing bodies (names_in s) b ⊎ MissesOnWay bodies s b → a ≡ b
    one_missing_name a b (inl x) (inl y) = one_missing (names_in s) a b x y
    one_missing_name a b (inl x) (inr y) = absurd (held_or_missing (names_in s) a y.held x)
    one_missing_name a b (inr x) (inl y) = absurd (held_or_missing (names_in s) b x.held y)
    one_missing_name a b (inr x) (inr y) =
        let way = one_way s x.anchor y.anchor x.components y.components x.way y.way in
        let gap : IsWayGap bodies y.anchor x.components a = subst (λ (n : Name). IsWayGap bodies n x.components a) way.anchor x.gap in
        one_way_gap y.anchor s.core y.components a b (subst (λ (cs : List (List ℕ)). IsWayGap bodies y.anchor cs a) way.components gap) y.gap

    one_number : (j k : ℕ) → EndsOnWay bodies s j → EndsOnWay bodies s k → j ≡ k
    one_number j k x y =
        let way = one_way s x.anchor y.anchor x.components y.components x.way y.way in
        let end : IsWayEnd bodies y.anchor x.components s.core j = subst (λ (n : Name). IsWayEnd bodies n x.components s.core j) way.anchor x.end in
        one_way_end y.anchor s.core y.components j k (subst (λ (cs : List (List ℕ)). IsWayEnd bodies y.anchor cs s.core j) way.components end) y.end

    pub one_resolution_lem : (a b : GraphAnswer Name) → IsResolveAnswer bodies s a → IsResolveAnswer bodies s b → a ≡ b
    one_resolution_lem (Found n) (Found m) x y = ap (λ (k : Name). let a : GraphAnswer Name = Found k in a) (x.core ∙ sym y.core)
    one_resolution_lem (Found n) (Missing m) x y = absurd (found_or_missing n m x y)
    one_resolution_lem (Found n) (Nowhere k) x y = absurd (found_or_end n k x y)
    one_resolution_lem (Missing n) (Found m) x y = absurd (found_or_missing m n y x)
    one_resolution_lem (Missing n) (Missing m) x y = ap (λ (k : Name). let a : GraphAnswer Name = Missing k in a) (one_missing_name n m x y)
    one_resolution_lem (Missing n) (Nowhere k) x y = absurd (missing_or_end n k x y)
    one_resolution_lem (Nowhere j) (Found m) x y = absurd (found_or_end m j y x)
    one_resolution_lem (Nowhere j) (Missing m) x y = absurd (missing_or_end m j y x)
    one_resolution_lem (Nowhere j) (Nowhere k) x y = ap (λ (i : ℕ). let a : GraphAnswer Name = Nowhere i in a) (one_number j k x y)
