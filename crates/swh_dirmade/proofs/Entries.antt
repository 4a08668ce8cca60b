-- Entries that are put in order: they make a directory, and its children are theirs.
use Rattle.std.proofs.Common.{◌≡◌, ◌≢◌, ℕ, zero, suc, ◌+◌, ◌<◌, ◌≤◌, Bool, true, false, Option, Some, None, List, [], ◌∷◌, ◌++◌, length, map, get_or, Contains, refl, sym, ap, ◌∙◌, subst, arith, length-append}
use Rattle.std.specs.Prelude.{if◌then◌else◌, ◌==◌}
use Rattle.std.specs.List.{AllByRecursion, AllPairs, sum_by}
use Rattle.std.specs.List.Sorted.{IsSortedBy, IsPermutation}
use Rattle.std.specs.Str.{bytes_eq}
use Rattle.std.specs.Ordering.{nat_cmp, is_lt}
use Rattle.std.specs.Cmp.Lexicographic.{slice_cmp}
use Rattle.std.specs.FinMap.{nat_cmp-IsAntisymmetric, slice_cmp-IsAntisymmetric}
use Rattle.std.proofs.lemmas.Cmp.{nat_list_cmp_total}
use Rattle.std.proofs.lemmas.List.MinMax.{ranks_by}
use Rattle.std.proofs.lemmas.List.{append-nil}
use Rattle.std.proofs.lemmas.List.Elements.{All-from_recursion, recursion_from_All}
use Rattle.std.proofs.lemmas.List.Sorted.{sorted_far, All-permutation, IsPermutation-map, IsPermutation-trans, sum_by-IsPermutation}
use Rattle.std.proofs.lemmas.Map.Keys.{IsDistinct-IsPermutation}
use Rattle.std.proofs.lemmas.Map.Made.{AllPairs-from_IsDistinct, IsDistinct-from_AllPairs}
use Rattle.std.proofs.lemmas.Slice.Eq.{bytes_eq-Decides}
use Rattle.std.proofs.lemmas.List.Sums.{sum_by-cons}
use Rattle.swh_base.specs.declared.kind.Kind.TheVariants.{Directory}
use Rattle.swh_base.specs.declared.name.Name.{Name}
use Rattle.swh_base.specs.Directory.{DirectoryEntry, IsEntry, IsBefore, AreEntries, IsDirectory, entry_text, directory_text, sort_key, child_of, children_of}
use Rattle.swh_base.specs.Manifest.{AreChildren}
use Rattle.swh_base.proofs.DirectoryLemmas.{one_listing_lem}
use Rattle.swh_dedup.proofs.Elements.{all_from, each_is}
use Rattle.swh_base.specs.Limits.{body_limit}
use Rattle.swh_base.specs.declared.kind.Kind.{Kind}
use Rattle.swh_base.specs.declared.entry.Entry.{Entry}
use Rattle.swh_base.proofs.Elementary.{less_or, same_tests}
use Rattle.swh_model.specs.Meaning.{Made}
use Rattle.swh_dirmade.specs.Directories.{directory_id}
use Rattle.swh_dirmade.specs.Making.{IsReadyEntry, MayBeDirectory, IsDirectoryObject}
use Rattle.swh_dirmade.proofs.Paths.{Plain, not_plain, last_cut}

plain_nil : Plain []
plain_nil c = let lt = c.1 in absurd (omega (arith, lt))

-- names that differ are compared as different
keys_apart_by : (a b : List ℕ) (p q : Bool) → Plain a → Plain b → (a ≡ b → ⊥) → a ++ (if p then 47 ∷ [] else []) ≡ b ++ (if q then 47 ∷ [] else []) → ⊥
keys_apart_by a b true true pa pb apart e = apart (last_cut a b [] [] plain_nil plain_nil e).0
keys_apart_by a b true false pa pb apart e = not_plain b a [] (sym (append-nil b) ∙ sym e) pb
keys_apart_by a b false true pa pb apart e = not_plain a b [] (sym (append-nil a) ∙ e) pa
keys_apart_by a b false false pa pb apart e = apart (sym (append-nil a) ∙ e ∙ append-nil b)

keys_apart : (a b : DirectoryEntry) → IsEntry a → IsEntry b → a.name ≢ b.name → sort_key a ≡ sort_key b → ⊥
keys_apart a b ha hb apart e = keys_apart_by a.name b.name (a.mode == 40000) (b.mode == 40000) ha.name.no_slash hb.name.no_slash apart e

abbrev pub lt_keys : DirectoryEntry → DirectoryEntry → Bool
lt_keys x y = is_lt (slice_cmp nat_cmp (sort_key x) (sort_key y))

before : (a b : DirectoryEntry) → IsEntry a → IsEntry b → a.name ≢ b.name → lt_keys b a ≡ false → IsBefore a b
before a b ha hb apart h =
    less_or (slice_cmp nat_cmp (sort_key a) (sort_key b)) (slice_cmp nat_cmp (sort_key b) (sort_key a)) (nat_list_cmp_total.antisymm (sort_key a) (sort_key b)) h
    (λ e. keys_apart a b ha hb apart (slice_cmp-IsAntisymmetric nat_cmp-IsAntisymmetric (sort_key a) (sort_key b) e))

sorted_tail : (e : DirectoryEntry) (es : List DirectoryEntry) → IsSortedBy lt_keys (e ∷ es) → IsSortedBy lt_keys es
sorted_tail e es up = λ k d low high.
    let one : suc k + 1 ≡ suc (k + 1) = omega arith in
    subst (λ (n : ℕ). lt_keys (get_or (e ∷ es) n d) (get_or es k d) ≡ false) one (up (suc k) d (omega arith) (omega (arith, high)))

pairs_tail : (name : List ℕ) (names : List (List ℕ)) → AllPairs (λ a b. a ≢ b) (name ∷ names) → AllPairs (λ a b. a ≢ b) names
pairs_tail name names h = λ i j d lt within. h (suc i) (suc j) d (omega (arith, lt)) (omega (arith, within))

names_length : (es : List DirectoryEntry) → length (map (λ e. e.name) es) ≡ length es
names_length [] = refl
names_length (e ∷ es) = ap suc (names_length es)

name_at_is : (es : List DirectoryEntry) (k : ℕ) (d : DirectoryEntry) → k < length es → get_or (map (λ e. e.name) es) k [] ≡ (get_or es k d).name
name_at_is [] k d lt = absurd (omega (arith, lt))
name_at_is (e ∷ es) zero d lt = refl
name_at_is (e ∷ es) (suc k) d lt = name_at_is es k d (omega (arith, lt))

pub are_entries : (es : List DirectoryEntry) → AllByRecursion IsEntry es → AllPairs (λ a b. a ≢ b) (map (λ e. e.name) es) → IsSortedBy lt_keys es → AreEntries es
are_entries [] all once up = tt
are_entries (e ∷ es) all once up = (
  all.0,
  all_from (λ other. e.name ≢ other.name) es apart,
  all_from (λ other. IsBefore e other) es (λ o c. before e o all.0 (each_is IsEntry es o all.1 c) (apart o c) (later o c)),
  are_entries es all.1 (pairs_tail e.name (map (λ e. e.name) es) once) (sorted_tail e es up),
)
  where
    apart : (o : DirectoryEntry) → Contains es o → e.name ≢ o.name
    apart o c same =
        let lt = c.1 in
        let n = names_length es in
        once 0 (suc c.0) [] (omega arith) (omega (arith, lt, n)) (same ∙ ap (λ (x : DirectoryEntry). x.name) (sym c.2) ∙ sym (name_at_is es c.0 o lt))

    later : (o : DirectoryEntry) → Contains es o → lt_keys o e ≡ false
    later o c =
        let lt = c.1 in
        ap (λ (x : DirectoryEntry). lt_keys x e) (sym c.2) ∙ sorted_far lt_keys (ranks_by nat_list_cmp_total sort_key) (e ∷ es) up 0 (suc c.0) o (omega arith) (omega (arith, lt))

abbrev cons_option : Option Name → List Name → List Name
cons_option None names = names
cons_option (Some name) names = name ∷ names

kids_among : (names : List Name) (es : List DirectoryEntry) → AllByRecursion (IsReadyEntry names) es → AllByRecursion (Contains names) (children_of es)
kids_among names [] h = tt
kids_among names (e ∷ es) h = by_child (child_of e) refl (kids_among names es h.1)
  where
    by_child : (o : Option Name) → child_of e ≡ o → AllByRecursion (Contains names) (children_of es) → AllByRecursion (Contains names) (cons_option o (children_of es))
    by_child None q others = others
    by_child (Some n) q others = (h.0.child n q, others)

-- the children of a directory's body are those of its entries
pub kids_are : (names kids : List Name) (body : List ℕ) (es : List DirectoryEntry) → IsDirectory body es → AllByRecursion (IsReadyEntry names) es → AreChildren Directory body kids → AllByRecursion (Contains names) kids
kids_are names kids body es is ready are =
    subst (AllByRecursion (Contains names)) (sym (are.kids ∙ ap children_of (one_listing_lem body are.entries es are.directory is))) (kids_among names es ready)

-- how long a directory's text is
pub text_length : (es : List DirectoryEntry) → length (directory_text es) ≡ sum_by (λ e. length (entry_text e)) es
text_length [] = refl
text_length (e ∷ es) = length-append (entry_text e) (directory_text es) ∙ ap (λ (n : ℕ). length (entry_text e) + n) (text_length es) ∙ sym (sum_by-cons (λ e. length (entry_text e)) e es)

pub all_recursion_permutation : {X : Type 0} (P : X → Type 0) (xs ys : List X) → IsPermutation xs ys → AllByRecursion P xs → AllByRecursion P ys
all_recursion_permutation P xs ys moved h = recursion_from_All P ys (All-permutation P xs ys moved (All-from_recursion P xs h))

pub flips : (a b : List ℕ) → bytes_eq a b ≡ bytes_eq b a
flips a b = same_tests (bytes_eq a b) (bytes_eq b a) (λ e. (bytes_eq-Decides b a).1 (sym ((bytes_eq-Decides a b).0 e))) (λ e. (bytes_eq-Decides a b).1 (sym ((bytes_eq-Decides b a).0 e)))

-- what an entry may be, of each
goods : (names : List Name) (es : List DirectoryEntry) → AllByRecursion (IsReadyEntry names) es → AllByRecursion IsEntry es
goods names [] h = tt
goods names (e ∷ es) h = (h.0.good, goods names es h.1)

module _ (names : List Name) (list ordered : List DirectoryEntry) (may : MayBeDirectory names list) (moved : IsPermutation list ordered) where
  all_moved : IsPermutation may.entries ordered
  all_moved = IsPermutation-trans may.entries list ordered may.order moved

  pub order_ready : AllByRecursion (IsReadyEntry names) ordered
  order_ready = all_recursion_permutation (IsReadyEntry names) may.entries ordered all_moved may.ready

  order_once : AllPairs (λ a b. a ≢ b) (map (λ e. e.name) ordered)
  order_once =
      let old = map (λ (e : DirectoryEntry). e.name) may.entries in
      let new = map (λ (e : DirectoryEntry). e.name) ordered in
      AllPairs-from_IsDistinct bytes_eq-Decides new (IsDistinct-IsPermutation bytes_eq flips old new (IsPermutation-map (λ (e : DirectoryEntry). e.name) may.entries ordered all_moved) (IsDistinct-from_AllPairs bytes_eq-Decides old may.once))

  -- the list in order is a directory
  pub order_good : IsSortedBy lt_keys ordered → AreEntries ordered
  order_good up = are_entries ordered (goods names ordered order_ready) order_once up

  pub order_short : length (directory_text ordered) ≤ body_limit
  order_short =
      let a = text_length ordered in
      let b = text_length may.entries in
      let c = sum_by-IsPermutation (λ (e : DirectoryEntry). length (entry_text e)) may.entries ordered all_moved in
      let few = may.short in
      omega (arith, a, b, c, few)

module _ (id : Kind → List ℕ → List ℕ) where
  -- the id of a directory's object
  pub object_named : (list entries : List DirectoryEntry) (object : Entry) → IsDirectoryObject id list entries object → object.name.id ≡ directory_id id entries
  object_named list entries object d = d.whole.named ∙ ap (λ (m : Made). id m.kind m.body) d.is

  -- the children of a directory's object are among these
  pub object_kids : (names : List Name) (list entries : List DirectoryEntry) (object : Entry) → MayBeDirectory names list → IsDirectoryObject id list entries object → AllByRecursion (Contains names) object.kids
  object_kids names list entries object may d =
      let kind : object.name.kind ≡ Directory = ap (λ (m : Made). m.kind) d.is in
      let is : IsDirectory object.body entries = record { text = ap (λ (m : Made). m.body) d.is; good = d.good } in
      kids_are names object.kids object.body entries is (order_ready names list entries may d.order) (subst (λ (k : Kind). AreChildren k object.body object.kids) kind d.whole.kids)
