-- A place among entries that are in order, and what stands on both sides of it.
use Rattle.std.proofs.Common.{◌≡◌, inl, inr, ℕ, zero, suc, ◌<◌, ◌≤◌, true, false, List, length, get_or, Option, Some, None, sym, ◌∙◌, All, arith}
use Rattle.std.specs.Prelude.{IfSome}
use Rattle.std.specs.List.{slice_get}
use Rattle.std.proofs.lemmas.Bool.{cases_lt}
use Rattle.std.proofs.lemmas.Option.{slice_get_within, slice_get-get_or, get_or_from_slice_get}
use Rattle.swh_entries.specs.declared.entry.Entry.{Entry}
use Rattle.swh_entries.specs.Gaps.{entry_before}
use Rattle.swh_entries.specs.Keys.{entry_key, is_before}
use Rattle.swh_entries.proofs.Packings.{no_entry}
use Rattle.swh_forest.specs.Ordered.{AreOrdered}
use Rattle.swh_forest.proofs.Orders.{above-step, below-step, name-of}

-- an entry that was looked up
pub entry-there : (es : List Entry) (k : ℕ) (e : Entry) → Some e ≡ slice_get es k → (k < length es) × (e ≡ get_or es k e)
entry-there es k e is = (slice_get_within es k e (sym is), sym (get_or_from_slice_get es k e e (sym is)))

-- where none was found the entries end
pub past-end : (es : List Entry) (k : ℕ) → None ≡ slice_get es k → length es ≤ k
past-end es k is = elim (cases_lt k (length es)) [
  | inl l ↦ absurd (let bad : None ≡ Some (get_or es k no_entry) = is ∙ slice_get-get_or es k no_entry l in cc)
  | inr l ↦ l
]

-- the key comes before no entry in front of the place
pub low-side : (names : List (List ℕ)) (key : List ℕ) (es : List Entry) (place : ℕ) (e : Entry) → AreOrdered names es → Some e ≡ entry_before es place → is_before key (entry_key names e) ≡ false → (place ≤ length es) × ((k : ℕ) (d : Entry) → k < place → is_before key (entry_key names (get_or es k d)) ≡ false)
low-side names key es zero e o is h = absurd (cc)
low-side names key es (suc j) e o is h =
    let there = entry-there es j e is in
    let lt = there.0 in
    (omega (arith, lt), λ k d l. below-step names key es j e o lt there.1 h k d (omega arith))

-- the key comes before the entries from the place on
pub high-side : (names : List (List ℕ)) (key : List ℕ) (es : List Entry) (place : ℕ) (e : Entry) → AreOrdered names es → Some e ≡ slice_get es place → is_before key (entry_key names e) ≡ true → (k : ℕ) (d : Entry) → place ≤ k → k < length es → is_before key (entry_key names (get_or es k d)) ≡ true
high-side names key es place e o is h = above-step names key es place e o (entry-there es place e is).1 h

pub high-end : (names : List (List ℕ)) (key : List ℕ) (es : List Entry) (place : ℕ) → None ≡ slice_get es place → (k : ℕ) (d : Entry) → place ≤ k → k < length es → is_before key (entry_key names (get_or es k d)) ≡ true
high-end names key es place is k d le lt = let end = past-end es place is in absurd (omega (arith, end))

-- the names of what stands on both sides have numbers below this one
pub name-at : (n : ℕ) (es : List Entry) (o : Option Entry) (k : ℕ) → All (λ (f : Entry). f.name < n) es → o ≡ slice_get es k → IfSome o (λ f. f.name < n)
name-at n es None k all is = tt
name-at n es (Some e) k all is = let there = entry-there es k e is in name-of n es k e all there.0 there.1

pub name-before : (n : ℕ) (es : List Entry) (o : Option Entry) (k : ℕ) → All (λ (f : Entry). f.name < n) es → o ≡ entry_before es k → IfSome o (λ f. f.name < n)
name-before n es None k all is = tt
name-before n es (Some e) zero all is = absurd (cc)
name-before n es (Some e) (suc j) all is = name-at n es (Some e) j all is
