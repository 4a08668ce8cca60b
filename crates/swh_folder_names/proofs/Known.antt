-- The set of the names that were seen, and names with one more.
use Rattle.std.proofs.Common.{◌≡◌, ◌≢◌, ⊎_elim, ℕ, zero, suc, ◌+◌, ◌<◌, Bool, true, false, cond, not, List, [], ◌∷◌, ◌++◌, length, get_or, take, Contains, refl, sym, ap, ◌∙◌, subst, arith, Ordering, string_bytes}
use Rattle.std.proofs.lemmas.Bool.{not-false}
use Rattle.std.proofs.lemmas.Cmp.{nat_list_cmp_total, tied_itself}
use Rattle.std.proofs.lemmas.List.{take_more, length-take, get_or-take, get_or-map, length-map}
use Rattle.std.proofs.lemmas.List.Elements.{All-push, Contains-append_left, Contains-push, Contains-push_cases}
use Rattle.std.proofs.lemmas.List.Quantifiers.{all_pairs_push}
use Rattle.std.specs.BTreeMap.{is_at}
use Rattle.std.specs.Borrow.{Bor}
use Rattle.std.specs.Cmp.Lexicographic.{slice_cmp}
use Rattle.std.specs.FinMap.{slice_cmp-IsAntisymmetric, nat_cmp-IsAntisymmetric}
use Rattle.std.specs.List.{list_any}
use Rattle.std.specs.Ordering.{nat_cmp, is_eq}
use Rattle.std.specs.declared.cmp.Ordering.TheVariants.{Less, Equal, Greater}
use Rattle.swh_outside.specs.Folder.{IsFolderEntryName, AreNames}
use Rattle.swh_outside.specs.declared.folder.Item.{Item}
use Rattle.swh_folder_names.specs.Names.{names_of, AreKeys}

equal_order : (o : Ordering) → is_eq o ≡ true → o ≡ Equal
equal_order Less e = absurd (cc)
equal_order Equal e = refl
equal_order Greater e = absurd (cc)

same_bytes : (a b : List ℕ) → is_eq (slice_cmp nat_cmp a b) ≡ true → a ≡ b
same_bytes a b e = slice_cmp-IsAntisymmetric nat_cmp-IsAntisymmetric a b (equal_order (slice_cmp nat_cmp a b) e)

same_self : (a b : List ℕ) → a ≡ b → is_eq (slice_cmp nat_cmp a b) ≡ true
same_self a b e = ap (λ (x : List ℕ). is_eq (slice_cmp nat_cmp a x)) (sym e) ∙ ap is_eq (tied_itself nat_list_cmp_total a)

-- whether a set of these keys has the name
has : List (Bor (List ℕ)) → List ℕ → Bool
has keys name = list_any (is_at (λ (key : Bor (List ℕ)). slice_cmp nat_cmp name key.now)) keys

held : List ℕ → Bor (List ℕ)
held bytes = record { ref_ptr = (0, 0); now = bytes }

-- one name more
pub known-push : (keys new : List (Bor (List ℕ))) (names : List (List ℕ)) (key : Bor (List ℕ)) (name : List ℕ) → AreKeys keys names → key.now ≡ name
    → ((q : Bor (List ℕ)) → list_any (is_at (λ (k : Bor (List ℕ)). slice_cmp nat_cmp q.now k.now)) new ≡ cond (is_at (λ (k : Bor (List ℕ)). slice_cmp nat_cmp key.now k.now) q) true (list_any (is_at (λ (k : Bor (List ℕ)). slice_cmp nat_cmp q.now k.now)) keys))
    → AreKeys new (names ++ name ∷ [])
unfolding held has
known-push keys new names key name known same updates other = (there, found)
  where
    by_test : (b : Bool) → is_eq (slice_cmp nat_cmp key.now other) ≡ b → cond b true (has keys other) ≡ true → Contains (names ++ name ∷ []) other
    by_test true e h = subst (λ (x : List ℕ). Contains (names ++ name ∷ []) x) (sym same ∙ same_bytes key.now other e) (Contains-push names name)
    by_test false e h = Contains-append_left names (name ∷ []) other ((known other).0 h)

    there : has new other ≡ true → Contains (names ++ name ∷ []) other
    there h = by_test (is_eq (slice_cmp nat_cmp key.now other)) refl (sym (updates (held other)) ∙ h)

    either : (b : Bool) → cond b true true ≡ true
    either true = refl
    either false = refl

    found : Contains (names ++ name ∷ []) other → has new other ≡ true
    found h =
        updates (held other)
        ∙ ⊎_elim
        (λ (old : Contains names other). ap (λ (b : Bool). cond (is_eq (slice_cmp nat_cmp key.now other)) true b) ((known other).1 old) ∙ either (is_eq (slice_cmp nat_cmp key.now other)))
        (λ (own : name ≡ other). ap (λ (b : Bool). cond b true (has keys other)) (same_self key.now other (same ∙ own)))
        (Contains-push_cases names name other h)

-- what is said of a name that was put into the set
pub new_name : (keys : List (Bor (List ℕ))) (names : List (List ℕ)) (key : Bor (List ℕ)) (name : List ℕ) (added : Bool) → AreKeys keys names → key.now ≡ name
    → added ≡ not (list_any (is_at (λ (k : Bor (List ℕ)). slice_cmp nat_cmp key.now k.now)) keys) → added ≡ true → Contains names name → ⊥
new_name keys names key name added known same is new h =
    let there = (known key.now).1 (subst (λ (u : List ℕ). Contains names u) (sym same) h) in
    let both : true ≡ false = sym new ∙ is ∙ ap not there in
    absurd (cc)

pub old_name : (keys : List (Bor (List ℕ))) (names : List (List ℕ)) (key : Bor (List ℕ)) (name : List ℕ) (added : Bool) → AreKeys keys names → key.now ≡ name
    → added ≡ not (list_any (is_at (λ (k : Bor (List ℕ)). slice_cmp nat_cmp key.now k.now)) keys) → added ≡ false → Contains names name
old_name keys names key name added known same is seen =
    let there = not-false (list_any (is_at (λ (k : Bor (List ℕ)). slice_cmp nat_cmp key.now k.now)) keys) (sym is ∙ seen) in
    subst (λ (u : List ℕ). Contains names u) same ((known key.now).0 there)

same_read : {X : Type 0} (xs : List X) (k : ℕ) (d e : X) → k < length xs → get_or xs k d ≡ get_or xs k e
same_read [] k d e lt = absurd (omega (arith, lt))
same_read (x ∷ xs) zero d e lt = refl
same_read (x ∷ xs) (suc k) d e lt = same_read xs k d e (omega (arith, lt))

-- names with one more that is none of them
pub names-push : (names : List (List ℕ)) (name : List ℕ) → AreNames names → IsFolderEntryName name → (Contains names name → ⊥) → AreNames (names ++ name ∷ [])
names-push names name are is fresh = record {
  each = All-push IsFolderEntryName names name are.each is;
  once = all_pairs_push (λ m n. m ≢ n) names name are.once (λ k d lt e. fresh (k, lt, same_read names k name d lt ∙ e));
}

pub names-more : (names : List (List ℕ)) (i : ℕ) (name : List ℕ) → i < length names → get_or names i name ≡ name → AreNames (take i names) → IsFolderEntryName name → (Contains (take i names) name → ⊥) → AreNames (take (i + 1) names)
names-more names i name lt here are is fresh =
    subst AreNames (sym (take_more names i name lt ∙ ap (λ (n : List ℕ). take i names ++ n ∷ []) here)) (names-push (take i names) name are is fresh)

-- one that may stand in no folder
pub not_a_name : (names : List (List ℕ)) (i : ℕ) (name : List ℕ) → i < length names → get_or names i name ≡ name → (IsFolderEntryName name → ⊥) → AreNames names → ⊥
not_a_name names i name lt here bad are = bad (subst IsFolderEntryName here (are.each i name lt))

-- one that stands twice
pub stands_twice : (names : List (List ℕ)) (i : ℕ) (name : List ℕ) → i < length names → get_or names i name ≡ name → Contains (take i names) name → AreNames names → ⊥
stands_twice names i name lt here (k, within, is) are =
    let size = length-take i names in
    let before : k < i = omega (arith, size, within) in
    are.once k i name before lt (sym (get_or-take i names k name before) ∙ is ∙ sym here)

-- the name of an item among the names
pub name-here : (items : List Item) (i : ℕ) (item : Item) → i < length items → item ≡ get_or items i item → get_or (names_of items) i (string_bytes item.name) ≡ string_bytes item.name
name-here items i item lt is = get_or-map (λ (x : Item). string_bytes x.name) items i item (string_bytes item.name) lt ∙ ap (λ (x : Item). string_bytes x.name) (sym is)

pub names-size : (items : List Item) → length (names_of items) ≡ length items
names-size items = length-map items (λ (x : Item). string_bytes x.name)
