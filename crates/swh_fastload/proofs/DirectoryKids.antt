-- The children of the directories of a map.
use Rattle.std.proofs.Common.{◌≡◌, ◌≢◌, ◌⊎◌, inl, inr, ℕ, zero, suc, ◌+◌, ◌≤◌, Bool, true, false, cond, Option, Some, None, List, [], ◌∷◌, ◌++◌, length, map, Contains, refl, sym, ap, ◌∙◌, subst, arith}
use Rattle.std.specs.List.{AllByRecursion, cons_option}
use Rattle.std.specs.Ordering.{nat_cmp}
use Rattle.std.specs.declared.cmp.Ordering.TheVariants.{Less, Equal, Greater}
use Rattle.std.specs.Cmp.Lexicographic.{slice_cmp}
use Rattle.std.proofs.lemmas.List.{append-nil}
use Rattle.swh_base.specs.declared.kind.Kind.{Kind}
use Rattle.swh_base.specs.declared.kind.Kind.TheVariants.{Directory}
use Rattle.swh_base.specs.declared.name.Name.{Name}
use Rattle.swh_base.specs.Name.{IsId}
use Rattle.swh_base.specs.Directory.{DirectoryEntry, IsEntry, IsEntryName, IsMode, sort_key, directory_text, child_of, children_of}
use Rattle.swh_base.specs.Manifest.{AreChildren}
use Rattle.swh_base.proofs.DirectoryLemmas.{read_on, entry-not_nil, are-each}
use Rattle.swh_base.proofs.Elementary.{all_as}
use Rattle.swh_entries.specs.declared.entry.Leaf.{Leaf}
use Rattle.swh_forest.specs.Leaf.{IsLeafMode}
use Rattle.swh_forest.specs.PathMap.{PathMap, same, same_path, leaf_at, rest_beside, held_by, HasFolder}
use Rattle.swh_trees.specs.Directory.{directory_id, insert_by, insert_entry, ordered, first, entry_at, directory_within, depth_of, directory_of}
use Rattle.swh_forest.proofs.Grafts.{same_is}
use Rattle.swh_forest.proofs.Lookups.{path_is, path_self}
use Rattle.swh_dedup.specs.Whole.{content_name}
use Rattle.swh_fastmeaning.specs.Stock.{IsLeafAmong, IsFileAmong, AreFilesAmong}
use Rattle.swh_dedup.proofs.Elements.{each_is, first_is, later_is, first_or_later}

-- ## What stands in an ordered listing

all_put : (P : DirectoryEntry → Type 0) (e : DirectoryEntry) (es : List DirectoryEntry) → P e → AllByRecursion P es → AllByRecursion P (insert_entry e es)
all_put P e [] p h = (p, tt)
all_put P e (f ∷ es) p h =
    elim (slice_cmp nat_cmp (sort_key e) (sort_key f)) as (λ o. AllByRecursion P (insert_by o e f es (insert_entry e es))) [
      | Less ↦ (p, h)
      | Equal ↦ h
      | Greater ↦ (h.0, all_put P e es p h.1)
    ]

all_ordered : {X : Type 0} (P : DirectoryEntry → Type 0) (f : X → DirectoryEntry) (xs : List X) → ((x : X) → Contains xs x → P (f x)) → AllByRecursion P (ordered (map f xs))
all_ordered P f [] h = tt
all_ordered P f (x ∷ xs) h = all_put P (f x) (ordered (map f xs)) (h x (first_is x xs)) (all_ordered P f xs (λ y c. h y (later_is x xs y c)))

-- ## What stands at a name

leaf_there : (e : List (List ℕ) × Leaf) (m : PathMap) → Contains m e → (l : Leaf) × (leaf_at e.0 m ≡ Some l)
leaf_there e [] c = absurd (omega (arith, c.1))
leaf_there e (f ∷ m) c = by_test (same_path f.0 e.0) refl (first_or_later f m e c) (leaf_there e m)
  where
    not_self : (b : Bool) → b ≡ true → b ≡ false → ⊥
    not_self b t n = cc

    by_test : (b : Bool) → same_path f.0 e.0 ≡ b → (f ≡ e) ⊎ Contains m e → (Contains m e → (l : Leaf) × (leaf_at e.0 m ≡ Some l)) → (l : Leaf) × (cond b (Some f.1) (leaf_at e.0 m) ≡ Some l)
    by_test true t w k = (f.1, refl)
    by_test false t (inl s) k = absurd (not_self (same_path f.0 e.0) (ap (λ (q : List (List ℕ) × Leaf). same_path q.0 e.0) s ∙ path_self e.0) t)
    by_test false t (inr c) k = k c

leaf_among : (names : List Name) (p : List (List ℕ)) (l : Leaf) (m : PathMap) → AreFilesAmong names m → leaf_at p m ≡ Some l → IsFileAmong names (p, l)
leaf_among names p l [] h e = absurd cc
leaf_among names p l (f ∷ m) h e = by_test (same_path f.0 p) refl e (leaf_among names p l m h.1)
  where
    some_is : (a : Leaf) → Some a ≡ Some l → a ≡ l
    some_is a q = cc

    by_test : (b : Bool) → same_path f.0 p ≡ b → cond b (Some f.1) (leaf_at p m) ≡ Some l → (leaf_at p m ≡ Some l → IsFileAmong names (p, l)) → IsFileAmong names (p, l)
    by_test true t q k =
        subst (λ (x : List (List ℕ)). IsFileAmong names (x, l)) (path_is f.0 p t) (subst (λ (x : Leaf). IsFileAmong names (f.0, x)) (some_is f.1 q) h.0)
    by_test false t q k = k q

not_none : (o : Option Leaf) → o ≡ None → (l : Leaf) → o ≡ Some l → ⊥
not_none o n l s = cc

-- ## A listing does not depend on how deep it looks, where it looks deep enough

abbrev HavePaths : PathMap → Type 0
HavePaths m = AllByRecursion (λ e. e.0 ≢ []) m

abbrev AreWithin : ℕ → PathMap → Type 0
AreWithin n m = AllByRecursion (λ e. length e.0 ≤ n) m

held_each : (c : List ℕ) (Q : List (List ℕ) × Leaf → Type 0) (m : PathMap) → ((q : List (List ℕ)) (l : Leaf) → Contains m (c ∷ q, l) → Q (q, l)) → AllByRecursion Q (held_by c m)
held_each c Q [] h = tt
held_each c Q ((p, l) ∷ m) h = by_path p h (held_each c Q m (λ q k i. h q k (later_is (p, l) m (c ∷ q, k) i)))
  where
    by_path : (p : List (List ℕ)) → ((q : List (List ℕ)) (k : Leaf) → Contains ((p, l) ∷ m) (c ∷ q, k) → Q (q, k)) → AllByRecursion Q (held_by c m) → AllByRecursion Q (rest_beside c p l (held_by c m))
    by_path [] h others = others
    by_path (d ∷ p) h others = by_test (same d c) refl
      where
        by_test : (b : Bool) → same d c ≡ b → AllByRecursion Q (cond b ((p, l) ∷ held_by c m) (held_by c m))
        by_test true t = (h p l (subst (λ (x : List ℕ). Contains ((d ∷ p, l) ∷ m) (x ∷ p, l)) (same_is d c t) (first_is (d ∷ p, l) m)), others)
        by_test false t = others

held_paths : (c : List ℕ) (m : PathMap) → leaf_at (c ∷ []) m ≡ None → HavePaths (held_by c m)
held_paths c m none = held_each c (λ (e : List (List ℕ) × Leaf). e.0 ≢ []) m (λ q l i e. by_there q l i e)
  where
    by_there : (q : List (List ℕ)) (l : Leaf) → Contains m (c ∷ q, l) → q ≡ [] → ⊥
    by_there q l i e =
        let t = leaf_there (c ∷ [], l) m (subst (λ (x : List (List ℕ)). Contains m (c ∷ x, l)) e i) in
        not_none (leaf_at (c ∷ []) m) none t.0 t.1

held_within : (c : List ℕ) (n : ℕ) (m : PathMap) → AreWithin (suc n) m → AreWithin n (held_by c m)
held_within c n m h = held_each c (λ (e : List (List ℕ) × Leaf). length e.0 ≤ n) m (λ q l i. let w = each_is (λ (e : List (List ℕ) × Leaf). length e.0 ≤ suc n) m (c ∷ q, l) h i in omega (arith, w))

no_path : (p : List (List ℕ)) → p ≢ [] → length p ≤ 0 → ⊥
no_path [] s l = s refl
no_path (c ∷ p) s l = omega (arith, l)

none_within : (m : PathMap) → HavePaths m → AreWithin 0 m → m ≡ []
none_within [] h w = refl
none_within (e ∷ m) h w = absurd (no_path e.0 h.0 w.0)

map_same : {X Y : Type 0} (f g : X → Y) (xs : List X) → ((x : X) → Contains xs x → f x ≡ g x) → map f xs ≡ map g xs
map_same f g [] h = refl
map_same f g (x ∷ xs) h = let a = h x (first_is x xs) in let b = map_same f g xs (λ y c. h y (later_is x xs y c)) in cc

-- the entry of a path's first name
abbrev listed : (List DirectoryEntry → List ℕ) → ℕ → PathMap → List (List ℕ) × Leaf → DirectoryEntry
listed id d m e = entry_at id (first e.0) (leaf_at (first e.0 ∷ []) m) (directory_within id d (held_by (first e.0) m))

within_same : (id : List DirectoryEntry → List ℕ) (a b : ℕ) (m : PathMap) → HavePaths m → AreWithin a m → AreWithin b m → directory_within id a m ≡ directory_within id b m
within_same id zero zero m h v w = refl
within_same id zero (suc b) m h v w = sym (ap (directory_within id (suc b)) (none_within m h v))
within_same id (suc a) zero m h v w = ap (directory_within id (suc a)) (none_within m h w)
within_same id (suc a) (suc b) m h v w = ap ordered (map_same (listed id a m) (listed id b m) m (λ e c. by_leaf (first e.0) (leaf_at (first e.0 ∷ []) m) refl (λ k. within_same id a b k)))
  where
    by_leaf : (c : List ℕ) (o : Option Leaf) → leaf_at (c ∷ []) m ≡ o → ((k : PathMap) → HavePaths k → AreWithin a k → AreWithin b k → directory_within id a k ≡ directory_within id b k)
        → entry_at id c o (directory_within id a (held_by c m)) ≡ entry_at id c o (directory_within id b (held_by c m))
    by_leaf c (Some l) e again = refl
    by_leaf c None e again = ap (entry_at id c None) (again (held_by c m) (held_paths c m e) (held_within c a m v) (held_within c b m w))

within_depth : (m : PathMap) → AreWithin (depth_of m) m
within_depth [] = tt
within_depth (e ∷ m) = (omega arith, all_as (λ (f : List (List ℕ) × Leaf). length f.0 ≤ depth_of m) (λ (f : List (List ℕ) × Leaf). length f.0 ≤ length e.0 + depth_of m) (λ f w. omega (arith, w)) m (within_depth m))

-- ## The entries of a directory and their children

-- It is an entry, and its child, if it has one, is among these.
record IsEntryAmong (names : List Name) (e : DirectoryEntry) : Type 0 where
  entry : IsEntry e
  child : (n : Name) → child_of e ≡ Some n → Contains names n

some_name : (a b : Name) → Some a ≡ Some b → a ≡ b
some_name a b e = cc

abbrev with_mode : ℕ → List ℕ → List ℕ → DirectoryEntry
with_mode mode name id = record { mode = mode; name = name; id = id }

file_entry : (names : List Name) (c : List ℕ) (l : Leaf) → IsEntryName c → IsLeafAmong names l → IsEntryAmong names (record { mode = l.mode; name = c; id = l.id })
file_entry names c l n h = by_mode h.mode
  where
    content_among : (mode : ℕ) → l.mode ≡ mode → mode ≢ 160000 → child_of (with_mode mode c l.id) ≡ Some (content_name l.id) → IsMode mode → IsEntryAmong names (record { mode = l.mode; name = c; id = l.id })
    content_among mode e other is good =
        subst (λ (k : ℕ). IsEntryAmong names (with_mode k c l.id)) (sym e) (record {
          entry = record { mode = good; name = n; id = h.id.0 };
          child = λ m q. subst (Contains names) (some_name (content_name l.id) m (sym is ∙ q)) (h.content (λ f. other (sym e ∙ f)));
        })

    by_mode : IsLeafMode l.mode → IsEntryAmong names (record { mode = l.mode; name = c; id = l.id })
    by_mode (inl e) = content_among 100644 e (λ q. omega (arith, q)) refl (inl refl)
    by_mode (inr (inl e)) = content_among 100755 e (λ q. omega (arith, q)) refl (inr (inl refl))
    by_mode (inr (inr (inl e))) = content_among 120000 e (λ q. omega (arith, q)) refl (inr (inr (inl refl)))
    by_mode (inr (inr (inr e))) =
        subst (λ (k : ℕ). IsEntryAmong names (with_mode k c l.id)) (sym e) (record { entry = record { mode = inr (inr (inr (inr refl))); name = n; id = h.id.0 }; child = λ m q. absurd cc })

-- the name of the directory of a map
abbrev pub directory_name : (Kind → List ℕ → List ℕ) → PathMap → Name
directory_name id_of m = record { kind = Directory; id = directory_id id_of (directory_of id_of m) }

-- Each folder right under the map's root is one of these.
abbrev pub AreFoldersAmong : (Kind → List ℕ → List ℕ) → List Name → PathMap → Type 0
AreFoldersAmong id_of names m = (c : List ℕ) → HasFolder m (c ∷ []) → Contains names (directory_name id_of (held_by c m)) × IsId (directory_id id_of (directory_of id_of (held_by c m)))

module _ (id_of : Kind → List ℕ → List ℕ) (names : List Name) (m : PathMap) (files : AreFilesAmong names m) (folders : AreFoldersAmong id_of names m) where
  folder_entry : (d : ℕ) (c : List ℕ) → AreWithin (suc d) m → IsEntryName c → leaf_at (c ∷ []) m ≡ None → HasFolder m (c ∷ [])
      → IsEntryAmong names (record { mode = 40000; name = c; id = directory_id id_of (directory_within (directory_id id_of) d (held_by c m)) })
  folder_entry d c w n none there =
      let same = within_same (directory_id id_of) d (depth_of (held_by c m)) (held_by c m) (held_paths c m none) (held_within c d m w) (within_depth (held_by c m)) in
      let f = folders c there in
      subst (λ (es : List DirectoryEntry). IsEntryAmong names (record { mode = 40000; name = c; id = directory_id id_of es })) (sym same) (record {
        entry = record { mode = inr (inr (inr (inl refl))); name = n; id = f.1.0 };
        child = λ k q. subst (Contains names) (some_name (directory_name id_of (held_by c m)) k q) f.0;
      })

  one_entry : (d : ℕ) (e : List (List ℕ) × Leaf) → AreWithin (suc d) m → Contains m e → IsEntryAmong names (listed (directory_id id_of) d m e)
  one_entry d (p, l) w i = by_path p (each_is (IsFileAmong names) m (p, l) files i) i
    where
      by_path : (p : List (List ℕ)) → IsFileAmong names (p, l) → Contains m (p, l) → IsEntryAmong names (listed (directory_id id_of) d m (p, l))
      by_path [] h i = absurd (h.some refl)
      by_path (c ∷ q) h i = by_leaf (leaf_at (c ∷ []) m) refl
        where
          goes_on : (q : List (List ℕ)) → Contains m (c ∷ q, l) → leaf_at (c ∷ []) m ≡ None → HasFolder m (c ∷ [])
          goes_on [] i none = let t = leaf_there (c ∷ [], l) m i in absurd (not_none (leaf_at (c ∷ []) m) none t.0 t.1)
          goes_on (x ∷ q) i none = let t = leaf_there (c ∷ x ∷ q, l) m i in (x, q, t.0, t.1)

          by_leaf : (o : Option Leaf) → leaf_at (c ∷ []) m ≡ o → IsEntryAmong names (entry_at (directory_id id_of) c o (directory_within (directory_id id_of) d (held_by c m)))
          by_leaf (Some k) e = file_entry names c k h.parts.0 (leaf_among names (c ∷ []) k m files e).leaf
          by_leaf None e = folder_entry d c w h.parts.0 e (goes_on q i e)

  entries_among : AllByRecursion (IsEntryAmong names) (directory_of id_of m)
  entries_among = by_depth (depth_of m) (within_depth m)
    where
      by_depth : (d : ℕ) → AreWithin d m → AllByRecursion (IsEntryAmong names) (directory_within (directory_id id_of) d m)
      by_depth zero w = tt
      by_depth (suc d) w = all_ordered (IsEntryAmong names) (listed (directory_id id_of) d m) m (λ e i. one_entry d e w i)

  kids_among : (es : List DirectoryEntry) → AllByRecursion (IsEntryAmong names) es → AllByRecursion (Contains names) (children_of es)
  kids_among [] h = tt
  kids_among (e ∷ es) h = by_child (child_of e) refl (kids_among es h.1)
    where
      by_child : (o : Option Name) → child_of e ≡ o → AllByRecursion (Contains names) (children_of es) → AllByRecursion (Contains names) (cons_option o (children_of es))
      by_child None q others = others
      by_child (Some n) q others = (h.0.child n q, others)

  no_more : (es : List DirectoryEntry) → [] ≡ directory_text es → es ≡ []
  no_more [] h = refl
  no_more (e ∷ es) h = absurd (entry-not_nil e (directory_text es) (sym h))

  -- the children of the map's directory are among these
  pub directory_kids : (kids : List Name) → AreChildren Directory (directory_text (directory_of id_of m)) kids → AllByRecursion (Contains names) kids
  directory_kids kids h =
      let own = directory_of id_of m in
      let r = read_on h.entries own [] (are-each h.entries h.directory.good) (all_as (IsEntryAmong names) IsEntry (λ e a. a.entry) own entries_among) (sym h.directory.text ∙ sym (append-nil (directory_text own))) in
      let same : h.entries ≡ own = r.1 ∙ ap (λ (more : List DirectoryEntry). own ++ more) (no_more r.0 r.2) ∙ append-nil own in
      subst (AllByRecursion (Contains names)) (sym (h.kids ∙ ap children_of same)) (kids_among own entries_among)
