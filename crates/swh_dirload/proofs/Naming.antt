-- Names in folders, none of which stands twice in one.
use Rattle.std.proofs.Common.{◌≡◌, ◌≢◌, ℕ, suc, ◌+◌, ◌<◌, ◌≤◌, List, [], ◌∷◌, ◌++◌, length, map, get_or, refl, sym, subst, arith}
use Rattle.std.specs.Prelude.{string_bytes}
use Rattle.std.specs.List.{AllByRecursion}
use Rattle.std.specs.List.Sorted.{IsPermutation}
use Rattle.std.specs.Str.{bytes_eq}
use Rattle.std.proofs.lemmas.List.{append_assoc}
use Rattle.std.proofs.lemmas.List.Sorted.{All-permutation, IsPermutation-map}
use Rattle.std.proofs.lemmas.Slice.Eq.{bytes_eq-Decides}
use Rattle.std.proofs.lemmas.Map.Keys.{IsDistinct-IsPermutation}
use Rattle.std.proofs.lemmas.Map.Made.{AllPairs-from_IsDistinct, IsDistinct-from_AllPairs}
use Rattle.swh_dirmade.proofs.Entries.{flips}
use Rattle.swh_outside.specs.Folder.{FolderEntry, IsFolderEntryName, AreNames}
use Rattle.swh_outside.specs.Listing.{listed}
use Rattle.swh_outside.specs.declared.folder.Item as listing
use Rattle.swh_dirload.specs.declared.found.Found.{Found}
use Rattle.swh_dirload.specs.Items.{AreInOrder}
use Rattle.swh_dirload.specs.Found.{IsPlaced, ArePlaced, AreBelow, AreApart, AreNamed, AreNamedBehind, found_in}

-- names that are put in order stay good, and none stands twice
pub names_in_order : (ordered : List FolderEntry) → AreInOrder ordered → AreNames (map (λ entry. entry.name) ordered)
names_in_order ordered h =
    let old = map (λ (entry : FolderEntry). entry.name) h.entries in
    let new = map (λ (entry : FolderEntry). entry.name) ordered in
    let moved : IsPermutation old new = IsPermutation-map (λ (entry : FolderEntry). entry.name) h.entries ordered h.order.same in
    record {
      each = All-permutation IsFolderEntryName old new moved h.names.each;
      once = AllPairs-from_IsDistinct bytes_eq-Decides new (IsDistinct-IsPermutation bytes_eq flips old new moved (IsDistinct-from_AllPairs bytes_eq-Decides old h.names.once));
    }

pub names_tail : (name : List ℕ) (names : List (List ℕ)) → AreNames (name ∷ names) → AreNames names
names_tail name names h = record {
  each = λ i d lt. h.each (suc i) d (omega (arith, lt));
  once = λ i j d lt within. h.once (suc i) (suc j) d (omega (arith, lt)) (omega (arith, within));
}

-- the names of a folder's items, as they are listed
abbrev listed_names : List listing.Item → List (List ℕ)
listed_names items = map (λ entry. entry.name) (map listed items)

apart_others : (n : ℕ) (item : listing.Item) (items : List listing.Item) → ((k : ℕ) → k < length (listed_names items) → string_bytes item.name ≢ get_or (listed_names items) k []) → AllByRecursion (AreApart (found_in n item)) (map (found_in n) items)
apart_others n item [] h = tt
apart_others n item (i ∷ items) h = (λ _ same. h 0 (omega arith) same, apart_others n item items (λ k lt. h (suc k) (omega (arith, lt))))

pub named_items : (n : ℕ) (items : List listing.Item) → AreNames (map (λ entry. entry.name) (map listed items)) → AreNamed (map (found_in n) items)
named_items n [] h = tt
named_items n (i ∷ items) h =
    (h.each 0 [] (omega arith), apart_others n i items (λ k lt. h.once 0 (suc k) [] (omega arith) (omega (arith, lt))), named_items n items (names_tail (string_bytes i.name) (listed_names items) h))

-- each stands in the folder of this number
abbrev AreIn : ℕ → List Found → Type 0
AreIn n = AllByRecursion (λ f. f.above ≡ n)

pub are_in : (n : ℕ) (items : List listing.Item) → AreIn n (map (found_in n) items)
are_in n [] = tt
are_in n (i ∷ items) = (refl, are_in n items)

apart_in : (n : ℕ) (f : Found) (new : List Found) → f.above < n → AreIn n new → AllByRecursion (AreApart f) new
apart_in n f [] below inside = tt
apart_in n f (g ∷ new) below inside = let e = inside.0 in (λ same _. omega (arith, same, e, below), apart_in n f new below inside.1)

apart_below : (n : ℕ) (f : Found) (old : List Found) → f.above ≡ n → AreBelow n old → AllByRecursion (AreApart f) old
apart_below n f [] e below = tt
apart_below n f (g ∷ old) e below = let b = below.0 in (λ same _. omega (arith, same, e, b), apart_below n f old e below.1)

apart_both : (f : Found) (xs ys : List Found) → AllByRecursion (AreApart f) xs → AllByRecursion (AreApart f) ys → AllByRecursion (AreApart f) (xs ++ ys)
apart_both f [] ys hx hy = hy
apart_both f (x ∷ xs) ys hx hy = (hx.0, apart_both f xs ys hx.1 hy)

apart_left : (f : Found) (xs ys : List Found) → AllByRecursion (AreApart f) (xs ++ ys) → AllByRecursion (AreApart f) xs
apart_left f [] ys h = tt
apart_left f (x ∷ xs) ys h = (h.0, apart_left f xs ys h.1)

apart_right : (f : Found) (xs ys : List Found) → AllByRecursion (AreApart f) (xs ++ ys) → AllByRecursion (AreApart f) ys
apart_right f [] ys h = h
apart_right f (x ∷ xs) ys h = apart_right f xs ys h.1

named_before : (n : ℕ) (new old : List Found) → AreIn n new → AreBelow n old → AreNamed new → AreNamed old → AreNamed (new ++ old)
named_before n [] old inside below hn ho = ho
named_before n (f ∷ new) old inside below hn ho = (hn.0, apart_both f new old hn.1 (apart_below n f old inside.0 below), named_before n new old inside.1 below hn.2 ho)

named_between : (n : ℕ) (xs new ys : List Found) → AreBelow n xs → AreIn n new → AreBelow n ys → AreNamed new → AreNamed (xs ++ ys) → AreNamed (xs ++ (new ++ ys))
named_between n [] new ys bx inside by hn h = named_before n new ys inside by hn h
named_between n (x ∷ xs) new ys bx inside by hn h = (h.0, apart_both x xs (new ++ ys) (apart_left x xs ys h.1) (apart_both x new ys (apart_in n x new bx.0 inside) (apart_right x xs ys h.1)), named_between n xs new ys bx.1 inside by hn h.2)

-- what is placed in a table is below its length
placed_below : (m n : ℕ) (found : List Found) → ArePlaced m found → m + length found ≤ n → 0 < n → AreBelow n found
placed_below m n [] placed le some = tt
placed_below m n (f ∷ found) placed le some = let above = placed.0.above in (omega (arith, above, le, some), placed_below (m + 1) n found placed.1 (omega (arith, le)) some)

below_push : (n : ℕ) (found : List Found) (next : Found) → AreBelow n found → next.above < n → AreBelow n (found ++ next ∷ [])
below_push n [] next h lt = (lt, tt)
below_push n (f ∷ found) next h lt = (h.0, below_push n found next h.1 lt)

-- a file was found
pub named_pass : (found : List Found) (next : Found) (waiting : List Found) → AreNamedBehind (found ++ next ∷ waiting) → AreNamedBehind ((found ++ next ∷ []) ++ waiting)
named_pass found next waiting h = subst AreNamedBehind (sym (append_assoc found (next ∷ []) waiting)) h

-- a folder was found, whose items wait first
pub named_enter : (found : List Found) (next : Found) (waiting : List Found) (items : List listing.Item) → ArePlaced 0 found → IsPlaced (length found) next → AreBelow (length found) waiting → AreNamedBehind (found ++ next ∷ waiting) → AreNames (map (λ entry. entry.name) (map listed items)) → AreNamedBehind ((found ++ next ∷ []) ++ (map (found_in (length found)) items ++ waiting))
named_enter [] next waiting items placed here below h names = named_before 0 (map (found_in 0) items) waiting (are_in 0 items) below (named_items 0 items names) h
named_enter (f ∷ found) next waiting items placed here below h names =
    let n = length (f ∷ found) in
    let new = map (found_in n) items in
    let above = here.above in
    let old : AreBelow n (found ++ next ∷ []) = below_push n found next (placed_below 1 n found placed.1 (omega arith) (omega arith)) (omega (arith, above)) in
    let now : AreNamed ((found ++ next ∷ []) ++ waiting) = subst AreNamed (sym (append_assoc found (next ∷ []) waiting)) h in
    named_between n (found ++ next ∷ []) new waiting old (are_in n items) below (named_items n items names) now
