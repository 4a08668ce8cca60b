-- Entries ascend, so a search finds where an entry of a name and an order stands.
use Rattle.std.proofs.Common.{◌≡◌, ◌≢◌, ℕ, zero, suc, ◌+◌, ◌<◌, true, false, inl, inr, List, [], ◌∷◌, ◌++◌, length, get_or, sym, ap, ◌∙◌, subst, arith, All}
use Rattle.std.specs.List.{AllByRecursion, AllWithin}
use Rattle.std.specs.Ordering.{nat_cmp, is_lt, ordering_then}
use Rattle.std.specs.declared.cmp.Ordering.{Ordering}
use Rattle.std.specs.Cmp.Lexicographic.{slice_cmp}
use Rattle.std.specs.declared.cmp.Ordering.TheVariants.{Less, Equal, Greater}
use Rattle.std.proofs.lemmas.Bool.{cases_lt, false_from_ne_true as not_true}
use Rattle.std.proofs.lemmas.Cmp.{nat_cmp_total, nat_list_cmp_total}
use Rattle.std.proofs.lemmas.List.{get_or_default}
use Rattle.std.proofs.lemmas.List.Elements.{All-from_recursion}
use Rattle.swh_base.specs.Directory.{DirectoryEntry, IsBefore, IsAfter, AreEntries, suffix_of}
use Rattle.swh_base.proofs.Elementary.{own_reverse, less_from}
use Rattle.swh_dirfmt.specs.declared.entry.SpelledEntry.{SpelledEntry}
use Rattle.swh_dirfmt.specs.Entries.{entry_of, entries_in_body, key_of, comes_before}

never_itself : (k : List ℕ) → slice_cmp nat_cmp k k ≡ Less → ⊥
never_itself k e = let turned = nat_list_cmp_total.antisymm k k in let both : Less ≡ Greater = rw e at turned in cc

later : (x : SpelledEntry) (xs : List SpelledEntry) → AllByRecursion (λ (other : DirectoryEntry). IsBefore (entry_of x) other) (entries_in_body xs) → AllByRecursion (λ (other : SpelledEntry). IsBefore (entry_of x) (entry_of other)) xs
later x [] h = tt
later x (y ∷ xs) h = (h.0, later x xs h.1)

-- each stands before the later ones
pub ascend : (xs : List SpelledEntry) → AreEntries (entries_in_body xs) → (i j : ℕ) (d : SpelledEntry) → i < j → j < length xs → slice_cmp nat_cmp (key_of (get_or xs i d)) (key_of (get_or xs j d)) ≡ Less
ascend [] h i j d lt within = absurd (omega arith)
ascend (x ∷ xs) h i zero d lt within = absurd (omega arith)
ascend (x ∷ xs) h zero (suc j) d lt within = All-from_recursion (λ (other : SpelledEntry). IsBefore (entry_of x) (entry_of other)) xs (later x xs h.2) j d (omega arith)
ascend (x ∷ xs) h (suc i) (suc j) d lt within = ascend xs h.3 i j d (omega arith) (omega arith)

-- what stands at an index below one that comes before the key comes before it too
pub before-from : (xs : List SpelledEntry) (k : List ℕ) (middle : ℕ) (x : SpelledEntry) → AreEntries (entries_in_body xs) → middle < length xs → comes_before k (get_or xs middle x) ≡ true → AllWithin (λ (e : SpelledEntry). comes_before k e ≡ true) xs 0 (middle + 1)
before-from xs k middle x h within p i d least lt =
    let found : comes_before k (get_or xs middle d) ≡ true = ap (comes_before k) (get_or_default xs middle d x within) ∙ p in
    elim (cases_lt i middle) [
      | inl below ↦ ap is_lt (nat_list_cmp_total.trans (key_of (get_or xs i d)) (key_of (get_or xs middle d)) k (ascend xs h i middle d below within) (less_from _ found))
      | inr top ↦ let e : i ≡ middle = omega arith in rw e found
    ]

-- and what stands from one on that does not come before it does not either
pub others-from : (xs : List SpelledEntry) (k : List ℕ) (middle : ℕ) (x : SpelledEntry) → AreEntries (entries_in_body xs) → middle < length xs → comes_before k (get_or xs middle x) ≡ false → AllWithin (λ (e : SpelledEntry). comes_before k e ≡ false) xs middle (length xs)
others-from xs k middle x h within p i d least lt =
    let found : comes_before k (get_or xs middle d) ≡ false = ap (comes_before k) (get_or_default xs middle d x within) ∙ p in
    elim (cases_lt middle i) [
      | inl above ↦ not_true (comes_before k (get_or xs i d)) (λ t. let early : comes_before k (get_or xs middle d) ≡ true = ap is_lt (nat_list_cmp_total.trans (key_of (get_or xs middle d)) (key_of (get_or xs i d)) k (ascend xs h middle i d above lt) (less_from _ t)) in absurd cc)
      | inr upto ↦ let e : i ≡ middle = omega arith in rw e found
    ]

-- the search for an entry's key ends at that entry
pub place_of : (xs : List SpelledEntry) (k : List ℕ) (place n : ℕ) (d : SpelledEntry) → AreEntries (entries_in_body xs) → AllWithin (λ (e : SpelledEntry). comes_before k e ≡ true) xs 0 place → AllWithin (λ (e : SpelledEntry). comes_before k e ≡ false) xs place (length xs) → n < length xs → key_of (get_or xs n d) ≡ k → place ≡ n
place_of xs k place n d h before others within is =
    elim (cases_lt place n) [
      | inl below ↦
          let early : comes_before k (get_or xs place d) ≡ true = ap is_lt (ap (slice_cmp nat_cmp (key_of (get_or xs place d))) (sym is) ∙ ascend xs h place n d below within) in
          let late = others place d (omega arith) (omega arith) in
          absurd cc
      | inr upto ↦ elim (cases_lt n place) [
        | inl above ↦ absurd (never_itself k (ap (λ (x : List ℕ). slice_cmp nat_cmp x k) (sym is) ∙ less_from _ (before n d (omega arith) above)))
        | inr top ↦ omega arith
      ]
    ]

-- where the search finds another name, none has this one in this order
pub none_so_named : (xs : List SpelledEntry) (name suffix : List ℕ) (place : ℕ) → AreEntries (entries_in_body xs) → AllWithin (λ (e : SpelledEntry). comes_before (name ++ suffix) e ≡ true) xs 0 place → AllWithin (λ (e : SpelledEntry). comes_before (name ++ suffix) e ≡ false) xs place (length xs) → ((d : SpelledEntry) → place < length xs → (get_or xs place d).name.now ≢ name) → (k : ℕ) (d : SpelledEntry) → k < length xs → suffix_of (get_or xs k d).mode ≡ suffix → (get_or xs k d).name.now ≢ name
none_so_named xs name suffix place h before others other k d within s e =
    let is : key_of (get_or xs k d) ≡ name ++ suffix = ap (λ (n : List ℕ). n ++ suffix_of (get_or xs k d).mode) e ∙ ap (λ (t : List ℕ). name ++ t) s in
    let same = place_of xs (name ++ suffix) place k d h before others within is in
    other d (omega arith) (ap (λ (i : ℕ). (get_or xs i d).name.now) same ∙ e)

same_number : (n : ℕ) → nat_cmp n n ≡ Equal
same_number n = own_reverse (nat_cmp n n) (nat_cmp_total.antisymm n n)

-- a text that goes on does not come before its front
never_longer : (front more : List ℕ) → slice_cmp nat_cmp (front ++ more) (front ++ []) ≡ Less → ⊥
never_longer [] [] e = cc
never_longer [] (n ∷ more) e = cc
never_longer (n ∷ front) more e = never_longer front more (sym (ap (λ (o : Ordering). ordering_then o (slice_cmp nat_cmp (front ++ more) (front ++ []))) (same_number n)) ∙ e)

-- a file of this name
abbrev pub file_of : List ℕ → DirectoryEntry
file_of name = record { mode = 100644; name = name; id = [] }

unnamed : (xs : List SpelledEntry) (name : List ℕ) → AllByRecursion (λ (other : DirectoryEntry). IsBefore other (file_of name)) (entries_in_body xs) → AllByRecursion (λ (other : SpelledEntry). other.name.now ≢ name) xs
unnamed [] name h = tt
unnamed (x ∷ xs) name h = ((λ e. never_longer name (suffix_of x.mode) (subst (λ (n : List ℕ). slice_cmp nat_cmp (n ++ suffix_of x.mode) (name ++ []) ≡ Less) e h.0)), unnamed xs name h.1)

-- Entries that all come before a file have not its name.
pub none_past : (xs : List SpelledEntry) (name : List ℕ) → IsAfter (entries_in_body xs) (file_of name) → All (λ (other : SpelledEntry). other.name.now ≢ name) xs
none_past xs name h = All-from_recursion (λ (other : SpelledEntry). other.name.now ≢ name) xs (unnamed xs name h)
