-- What the tree of places holds at a path.
use Rattle.std.proofs.Common.{◌≡◌, ◌<◌, ◌+◌, ℕ, Bool, cond, List, [], ◌∷◌, ◌++◌, length, get_or, map, take, Option, Some, None, Result, Ok, Err, IfOk, IfSome, IfNone, refl, sym, ap, ◌∙◌, subst, arith, string_bytes}
use Rattle.std.specs.Global.{Vec}
use Rattle.std.specs.FinMap as finite
use Rattle.std.specs.List.{position_or_len}
use Rattle.std.specs.Ordering.{nat_cmp, is_eq}
use Rattle.std.specs.Str.{bytes_eq}
use Rattle.std.specs.Cmp.Lexicographic.{slice_cmp}
use Rattle.std.proofs.lemmas.Cmp.{nat_list_cmp_total}
use Rattle.std.proofs.lemmas.List.{get_or-map, length-map, map_push, take_more}
use Rattle.std.proofs.lemmas.List.Sums.{fails_before_first}
use Rattle.std.proofs.lemmas.Map.Text.{is_eq-slice_cmp}
use Rattle.std.proofs.lemmas.Slice.Eq.{bytes_eq-Decides}
use Rattle.std.proofs.lemmas.Bool.Decides.{same_from_decides}
use Rattle.swh_outside.specs.Firsts.{first_or}
use Rattle.swh_folder_names.specs.Names.{names_of}
use Rattle.swh_memory_failures.specs.Tally.{fresh_tally}
use Rattle.swh_outside.specs.Folder.{FolderEntry, Standing, AreNames, bytes_at, entries_at, file_bytes, folder_entries}
use Rattle.swh_outside.specs.Listing.{listed}
use Rattle.swh_outside.specs.declared.folder.Item.{Item}
use Rattle.swh_outside.proofs.FirstsLaws.{first_of, first_or-at, first_or-none}
use Rattle.swh_memory_input.specs.Folders.{is_place_at, standing_of, tree_of, entries_of, making_of, making_at, MayList}
use Rattle.swh_memory_input.specs.declared.path_item.Stands.{Stands}
use Rattle.swh_memory_input.specs.declared.path_item.Stands.TheVariants.{File, Folder}
use Rattle.swh_memory_input.specs.declared.path_item.PathItem.{PathItem}

same_test : (a b : List ℕ) → is_eq (slice_cmp nat_cmp b a) ≡ bytes_eq a b
same_test a b = is_eq-slice_cmp b a ∙ turned a b
  where
    turned : (a b : List ℕ) → bytes_eq b a ≡ bytes_eq a b
    turned a b = let d = bytes_eq-Decides a b in same_from_decides (bytes_eq b a) (bytes_eq a b) (bytes_eq-Decides b a) (λ e. sym (d.0 e), λ e. d.1 (sym e))

pub standing_at : List PathItem → List ℕ → Option Standing
standing_at places path = first_or (is_place_at path) (λ place. Some (standing_of place.stands)) None places

pub tree-get : (places : List PathItem) (path : List ℕ) → finite.get (tree_of places) path ≡ standing_at places path
unfolding standing_at
tree-get [] path = finite.get-empty (slice_cmp nat_cmp) path
tree-get (place ∷ places) path =
    finite.get-insert nat_list_cmp_total (tree_of places) (string_bytes place.path) (standing_of place.stands) path
    ∙ ap (λ (b : Bool). cond b (Some (standing_of place.stands)) (finite.get (tree_of places) path)) (same_test (string_bytes place.path) path)
    ∙ ap (λ (s : Option Standing). cond (is_place_at path place) (Some (standing_of place.stands)) s) (tree-get places path)

-- what stands at the first place of a path
pub tree-at : (places : List PathItem) (path : List ℕ) (i : ℕ) (place : PathItem) → i ≡ position_or_len (is_place_at path) places → i < length places → finite.get (tree_of places) path ≡ Some (standing_of (get_or places i place).stands)
unfolding standing_at
tree-at places path i place found inside =
    tree-get places path ∙ first_or-at (is_place_at path) (λ (p : PathItem). Some (standing_of p.stands)) None places i place (first_of (is_place_at path) places i place found inside)

-- nothing stands where no place is
pub tree-none : (places : List PathItem) (path : List ℕ) → position_or_len (is_place_at path) places ≡ length places → finite.get (tree_of places) path ≡ None
unfolding standing_at
tree-none [] path none = finite.get-empty (slice_cmp nat_cmp) path
tree-none (p ∷ places) path none =
    tree-get (p ∷ places) path ∙ first_or-none (is_place_at path) (λ (q : PathItem). Some (standing_of q.stands)) None (p ∷ places) p (λ k h. fails_before_first (is_place_at path) (p ∷ places) k p (omega (arith, none, h)))

-- the names of items are those of their entries
pub names-same : (items : List Item) → map (λ entry. entry.name) (entries_of items) ≡ names_of items
names-same [] = refl
names-same (i ∷ items) = ap (λ (names : List (List ℕ)). string_bytes i.name ∷ names) (names-same items)

pub names-equal : (a b : List Item) → entries_of a ≡ entries_of b → names_of a ≡ names_of b
names-equal a b e = sym (names-same a) ∙ ap (λ (entries : List FolderEntry). map (λ entry. entry.name) entries) e ∙ names-same b

module _ (places : List PathItem) (path : List ℕ) (i : ℕ) (place : PathItem) (found : i ≡ position_or_len (is_place_at path) places) (inside : i < length places) where
  there : (stands : Stands) → (get_or places i place).stands ≡ stands → finite.get (tree_of places) path ≡ Some (standing_of stands)
  there stands e = tree-at places path i place found inside ∙ ap (λ (s : Stands). Some (standing_of s)) e

  -- a file stands there
  pub file-there : (bytes : Vec ℕ) (piece : ℕ) (failing : Vec ℕ) → (get_or places i place).stands ≡ File bytes piece failing → bytes_at (tree_of places) path ≡ Some bytes.items
  file-there bytes piece failing e = ap file_bytes (there (File bytes piece failing) e)

  pub file-making : (bytes : Vec ℕ) (piece : ℕ) (failing : Vec ℕ) → (get_or places i place).stands ≡ File bytes piece failing → making_at places path ≡ Some (piece, fresh_tally failing.items)
  file-making bytes piece failing e =
      first_or-at (is_place_at path) (λ (p : PathItem). making_of p.stands) None places i place (first_of (is_place_at path) places i place found inside)
      ∙ ap making_of e

  pub file-lists-none : (bytes : Vec ℕ) (piece : ℕ) (failing : Vec ℕ) → (get_or places i place).stands ≡ File bytes piece failing → MayList (tree_of places) path → ⊥
  file-lists-none bytes piece failing e (entries, are, names) =
      let none : entries_at (tree_of places) path ≡ None = ap folder_entries (there (File bytes piece failing) e) in
      let both : Some entries ≡ None = sym are ∙ none in
      absurd cc

  -- a folder stands there
  pub folder-there : (items : Vec Item) → (get_or places i place).stands ≡ Folder items → entries_at (tree_of places) path ≡ Some (entries_of items.items)
  folder-there items e = ap folder_entries (there (Folder items) e)

  pub folder-gives-none : (items : Vec Item) → (get_or places i place).stands ≡ Folder items → bytes_at (tree_of places) path ≡ None
  folder-gives-none items e = ap file_bytes (there (Folder items) e)

  pub folder-lists-none : (items : Vec Item) → (get_or places i place).stands ≡ Folder items → (AreNames (names_of items.items) → ⊥) → MayList (tree_of places) path → ⊥
  folder-lists-none items e bad (entries, are, names) =
      let both : Some entries ≡ Some (entries_of items.items) = sym are ∙ folder-there items e in
      let same : entries ≡ entries_of items.items = cc in
      bad (subst AreNames (ap (λ (es : List FolderEntry). map (λ entry. entry.name) es) same ∙ names-same items.items) names)

pub none-gives-none : (places : List PathItem) (path : List ℕ) → position_or_len (is_place_at path) places ≡ length places → bytes_at (tree_of places) path ≡ None
none-gives-none places path none = ap file_bytes (tree-none places path none)

pub none-lists-none : (places : List PathItem) (path : List ℕ) → position_or_len (is_place_at path) places ≡ length places → MayList (tree_of places) path → ⊥
none-lists-none places path none (entries, are, names) =
    let nothing : entries_at (tree_of places) path ≡ None = ap folder_entries (tree-none places path none) in
    let both : Some entries ≡ None = sym are ∙ nothing in
    absurd cc

-- one more item was copied
pub copied-more : (copy new items : List Item) (i : ℕ) (item one : Item) → i < length items → item ≡ get_or items i item → listed one ≡ listed item → new ≡ copy ++ one ∷ [] → entries_of copy ≡ take i (entries_of items) → entries_of new ≡ take (i + 1) (entries_of items)
copied-more copy new items i item one lt is same e so_far =
    let size = length-map items listed in
    let here : get_or (entries_of items) i (listed item) ≡ listed one = get_or-map listed items i item (listed item) lt ∙ ap listed (sym is) ∙ sym same in
    ap entries_of e ∙ map_push listed copy one ∙ ap (λ (es : List FolderEntry). es ++ listed one ∷ []) so_far ∙ ap (λ (x : FolderEntry). take i (entries_of items) ++ x ∷ []) (sym here) ∙ sym (take_more (entries_of items) i (listed item) (omega (arith, size, lt)))

pub some-found : {V E : Type 0} (r : Result (Option V) E) (P Q : V → Type 0) → ((v : V) → P v → Q v) → IfOk r (λ found. IfSome found P) → IfOk r (λ found. IfSome found Q)
some-found (Ok (Some v)) P Q f h = f v h
some-found (Ok None) P Q f h = tt
some-found (Err e) P Q f h = tt

pub none-found : {V E : Type 0} (r : Result (Option V) E) (P Q : Type 0) → (P → Q) → IfOk r (λ found. IfNone found P) → IfOk r (λ found. IfNone found Q)
none-found (Ok (Some v)) P Q f h = tt
none-found (Ok None) P Q f h = f h
none-found (Err e) P Q f h = tt
