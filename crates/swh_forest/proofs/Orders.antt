-- A sound folder's entries are in order, so halving finds where a name stands.
use Rattle.std.proofs.Common.{◌≡◌, ◌⊎◌, inl, inr, ℕ, suc, zero, ◌+◌, ◌-◌, ◌/◌, ◌<◌, ◌≤◌, Bool, true, false, cond, List, [], ◌∷◌, ◌++◌, length, get_or, refl, sym, ap, subst, ◌∙◌, All, arith}
use Rattle.std.specs.List.{insert, remove}
use Rattle.std.specs.Global.{Vec}
use Rattle.std.specs.Ordering.{nat_cmp, is_lt}
use Rattle.std.specs.declared.cmp.Ordering.{Ordering}
use Rattle.std.specs.declared.cmp.Ordering.TheVariants.{Less, Equal, Greater}
use Rattle.std.specs.Cmp.Lexicographic.{slice_cmp}
use Rattle.std.proofs.lemmas.Cmp.{nat_list_cmp_total}
use Rattle.std.proofs.lemmas.Bool.{cases_lt}
use Rattle.std.proofs.lemmas.List.{get_or_default}
use Rattle.swh_entries.specs.declared.entry.Child.{Child}
use Rattle.swh_entries.specs.declared.entry.Child.TheVariants.{File as FileChild, Folder as FolderChild}
use Rattle.swh_entries.specs.declared.entry.Entry.{Entry}
use Rattle.swh_forest.specs.Arena.{stands, forest_of, has_name, entries_without, entries_with}
use Rattle.swh_entries.specs.Keys.{name_at, entry_key, suffix, texts, is_before}
use Rattle.swh_entries.specs.Named.{Extends}
use Rattle.swh_forest.specs.Forest.{Forest, Nothing, beside, child_at}
use Rattle.swh_forest.specs.Sound.{IsSound, Follows}
use Rattle.swh_entries.proofs.Packings.{no_entry}
use Rattle.swh_forest.specs.Ordered.{AreOrdered, IsAbove}
use Rattle.swh_forest.proofs.Grafts.{same_is}
use Rattle.swh_forest.proofs.Sounds.{before-trans, follows-back}
use Rattle.swh_forest.proofs.Steps.{beside-past, tail-sound, some-child, child-of-entry}

-- ## Keys

not_itself : (a : List ℕ) (o : Ordering) → slice_cmp nat_cmp a a ≡ o → is_lt o ≡ false
not_itself a Less e = let t = nat_list_cmp_total.antisymm a a in absurd (let bad : Less ≡ Greater = rw e at t in cc)
not_itself a Equal e = refl
not_itself a Greater e = refl

-- no key comes before itself
before-self : (a : List ℕ) → is_before a a ≡ false
before-self a = not_itself a (slice_cmp nat_cmp a a) refl

not_both : (b : Bool) → b ≡ true → b ≡ false → {A : Type 0} → A
not_both b t f = absurd cc

-- ## A sound folder is ordered

follows-head : (n : List ℕ) (c : Child) (at : ℕ → Forest) (f : Forest) (k : List ℕ) → Follows k (beside n (stands at c) f) → is_before k (n ++ suffix c) ≡ true
follows-head n (FileChild l) at f k h = h
follows-head n (FolderChild j) at f k h = h

sound-follows : (n : List ℕ) (c : Child) (at : ℕ → Forest) (f : Forest) → IsSound (beside n (stands at c) f) → Follows (n ++ suffix c) f
sound-follows n (FileChild l) at f s = s.3
sound-follows n (FolderChild j) at f s = s.4

follows-all : (names : List (List ℕ)) (at : ℕ → Forest) (es : List Entry) (k : List ℕ) → Follows k (forest_of names at es) → IsSound (forest_of names at es) → (j : ℕ) (d : Entry) → j < length es → is_before k (entry_key names (get_or es j d)) ≡ true
follows-all names at [] k h s j d lt = absurd (omega arith)
follows-all names at (e ∷ es) k h s zero d lt = follows-head (name_at names e.name) e.child at (forest_of names at es) k h
follows-all names at (e ∷ es) k h s (suc j) d lt =
    let head = follows-head (name_at names e.name) e.child at (forest_of names at es) k h in
    let next = sound-follows (name_at names e.name) e.child at (forest_of names at es) s in
    let rest = tail-sound (name_at names e.name) e.child at (forest_of names at es) s in
    follows-all names at es k (follows-back k (entry_key names e) (forest_of names at es) head next) rest.1 j d (omega arith)

pub ordered : (names : List (List ℕ)) (at : ℕ → Forest) (es : List Entry) → IsSound (forest_of names at es) → AreOrdered names es
ordered names at [] s i j d lt l = absurd (omega arith)
ordered names at (e ∷ es) s i zero d lt l = absurd (omega arith)
ordered names at (e ∷ es) s zero (suc j) d lt l =
    let next = sound-follows (name_at names e.name) e.child at (forest_of names at es) s in
    let rest = tail-sound (name_at names e.name) e.child at (forest_of names at es) s in
    follows-all names at es (entry_key names e) next rest.1 j d (omega arith)
ordered names at (e ∷ es) s (suc i) (suc j) d lt l =
    let rest = tail-sound (name_at names e.name) e.child at (forest_of names at es) s in
    ordered names at es rest.1 i j d (omega arith) (omega arith)

key-more : (names names' : List (Vec ℕ)) (e : Entry) → Extends names names' → e.name < length names → entry_key (texts names') e ≡ entry_key (texts names) e
key-more names names' e x lt = ap (λ (n : List ℕ). n ++ suffix e.child) (x.same_names e.name lt)

-- more names leave the order as it is
pub ordered-more : (names names' : List (Vec ℕ)) (es : List Entry) → Extends names names' → All (λ (e : Entry). e.name < length names) es → AreOrdered (texts names) es → AreOrdered (texts names') es
ordered-more names names' es x all o i j d lt l =
    let first = key-more names names' (get_or es i d) x (all i d (omega arith)) in
    let second = key-more names names' (get_or es j d) x (all j d l) in
    rw (first, second) (o i j d lt l)

-- ## What stands under a name

pub found-at : (names : List (List ℕ)) (at : ℕ → Forest) (es : List Entry) (c : List ℕ) (k : ℕ) (d : Entry) → IsSound (forest_of names at es) → k < length es → has_name names c (get_or es k d) ≡ true → child_at c (forest_of names at es) ≡ stands at (get_or es k d).child
found-at names at es c k d s lt h =
    let is = same_is (name_at names (get_or es k d).name) c h in
    subst (λ (n : List ℕ). child_at n (forest_of names at es) ≡ stands at (get_or es k d).child) is (child-of-entry names at es k d lt s)

pub found-none : (names : List (List ℕ)) (at : ℕ → Forest) (es : List Entry) (c : List ℕ) → All (λ (e : Entry). has_name names c e ≡ false) es → child_at c (forest_of names at es) ≡ Nothing
found-none names at [] c all = refl
found-none names at (e ∷ es) c all =
    beside-past (name_at names e.name) c e.child at (forest_of names at es) (all zero e (omega arith))
    ∙ found-none names at es c (λ i d lt. all (suc i) d (omega arith))

-- ## The entries without a name

pub without-none : (names : List (List ℕ)) (es : List Entry) (c : List ℕ) → All (λ (e : Entry). has_name names c e ≡ false) es → entries_without names c es ≡ es
without-none names [] c all = refl
without-none names (e ∷ es) c all =
    let own : has_name names c e ≡ false = all zero e (omega arith) in
    let rest = without-none names es c (λ i d lt. all (suc i) d (omega arith)) in
    rw (own, rest) refl

absent-all : (names : List (List ℕ)) (at : ℕ → Forest) (es : List Entry) (c : List ℕ) → IsSound (forest_of names at es) → child_at c (forest_of names at es) ≡ Nothing → All (λ (e : Entry). has_name names c e ≡ false) es
absent-all names at es c s none k d lt = by_test (has_name names c (get_or es k d)) refl
  where
    by_test : (b : Bool) → has_name names c (get_or es k d) ≡ b → has_name names c (get_or es k d) ≡ false
    by_test true h = absurd (some-child at (get_or es k d).child (sym (found-at names at es c k d s lt h) ∙ none))
    by_test false h = h

-- the entry in front has another name than one behind it
head-other : (names : List (List ℕ)) (at : ℕ → Forest) (e : Entry) (es : List Entry) (c : List ℕ) (k : ℕ) (d : Entry) → IsSound (forest_of names at (e ∷ es)) → k < length es → has_name names c (get_or es k d) ≡ true → has_name names c e ≡ false
head-other names at e es c k d s lt h = by_test (has_name names c e) refl
  where
    rest : (child_at (name_at names e.name) (forest_of names at es) ≡ Nothing) × IsSound (forest_of names at es)
    rest = tail-sound (name_at names e.name) e.child at (forest_of names at es) s

    by_test : (b : Bool) → has_name names c e ≡ b → has_name names c e ≡ false
    by_test true g =
        let own = same_is (name_at names e.name) c g in
        let none : child_at c (forest_of names at es) ≡ Nothing = subst (λ (n : List ℕ). child_at n (forest_of names at es) ≡ Nothing) own rest.0 in
        absurd (some-child at (get_or es k d).child (sym (found-at names at es c k d rest.1 lt h) ∙ none))
    by_test false g = g

pub without-at : (names : List (List ℕ)) (at : ℕ → Forest) (es : List Entry) (c : List ℕ) (k : ℕ) (d : Entry) → IsSound (forest_of names at es) → k < length es → has_name names c (get_or es k d) ≡ true → entries_without names c es ≡ remove es k
without-at names at [] c k d s lt h = absurd (omega arith)
without-at names at (e ∷ es) c zero d s lt h =
    let rest = tail-sound (name_at names e.name) e.child at (forest_of names at es) s in
    let own = same_is (name_at names e.name) c h in
    let none : child_at c (forest_of names at es) ≡ Nothing = subst (λ (n : List ℕ). child_at n (forest_of names at es) ≡ Nothing) own rest.0 in
    let others = without-none names es c (absent-all names at es c rest.1 none) in
    ap (λ (b : Bool). cond b (entries_without names c es) (e ∷ entries_without names c es)) h ∙ others
without-at names at (e ∷ es) c (suc k) d s lt h =
    let rest = tail-sound (name_at names e.name) e.child at (forest_of names at es) s in
    let other = head-other names at e es c k d s (omega arith) h in
    ap (λ (b : Bool). cond b (entries_without names c es) (e ∷ entries_without names c es)) other
    ∙ ap (λ (t : List Entry). e ∷ t) (without-at names at es c k d rest.1 (omega arith) h)

pub without-placed : (names : List (List ℕ)) (at : ℕ → Forest) (es : List Entry) (c : List ℕ) (k : ℕ) → IsSound (forest_of names at es) → k < length es → ((d : Entry) → has_name names c (get_or es k d) ≡ true) → entries_without names c es ≡ remove es k
without-placed names at es c k s lt h = without-at names at es c k no_entry s lt (h no_entry)

-- ## One entry more

pub with-at : (names : List (List ℕ)) (e : Entry) (es : List Entry) (r : ℕ) → IsAbove names (entry_key names e) es r → entries_with names e es ≡ insert es r e
with-at names e [] zero a = refl
with-at names e [] (suc r) a = absurd (let w = a.within in omega arith)
with-at names e (f ∷ es) zero a =
    let here : is_before (entry_key names e) (entry_key names f) ≡ true = a.high zero f (omega arith) (omega arith) in
    ap (λ (b : Bool). cond b (e ∷ f ∷ es) (f ∷ entries_with names e es)) here
with-at names e (f ∷ es) (suc r) a =
    let past : is_before (entry_key names e) (entry_key names f) ≡ false = a.low zero f (omega arith) in
    let rest : IsAbove names (entry_key names e) es r = record {
      within = let w = a.within in omega arith;
      low = λ k d lt. a.low (suc k) d (omega arith);
      high = λ k d le lt. a.high (suc k) d (omega arith) (omega arith);
    } in
    ap (λ (b : Bool). cond b (e ∷ f ∷ es) (f ∷ entries_with names e es)) past
    ∙ ap (λ (t : List Entry). f ∷ t) (with-at names e es r rest)

-- ## Halving

-- the key comes before all entries from this one on
pub above-step : (names : List (List ℕ)) (key : List ℕ) (es : List Entry) (m : ℕ) (e : Entry) → AreOrdered names es → e ≡ get_or es m e → is_before key (entry_key names e) ≡ true → (k : ℕ) (d : Entry) → m ≤ k → k < length es → is_before key (entry_key names (get_or es k d)) ≡ true
above-step names key es m e o is h k d le lt = elim (cases_lt m k) [
  | inl l ↦ before-trans key (entry_key names (get_or es m d)) (entry_key names (get_or es k d)) (here d (omega arith)) (o m k d l lt)
  | inr l ↦ let same : m ≡ k = omega arith in subst (λ (i : ℕ). is_before key (entry_key names (get_or es i d)) ≡ true) same (here d (omega arith))
]
  where
    here : (d : Entry) → m < length es → is_before key (entry_key names (get_or es m d)) ≡ true
    here d l = subst (λ (x : Entry). is_before key (entry_key names x) ≡ true) (is ∙ get_or_default es m e d l) h

-- the key comes before no entry up to this one
pub below-step : (names : List (List ℕ)) (key : List ℕ) (es : List Entry) (m : ℕ) (e : Entry) → AreOrdered names es → m < length es → e ≡ get_or es m e → is_before key (entry_key names e) ≡ false → (k : ℕ) (d : Entry) → k ≤ m → is_before key (entry_key names (get_or es k d)) ≡ false
below-step names key es m e o within is h k d le = by_test (is_before key (entry_key names (get_or es k d))) refl
  where
    by_test : (b : Bool) → is_before key (entry_key names (get_or es k d)) ≡ b → is_before key (entry_key names (get_or es k d)) ≡ false
    by_test false q = q
    by_test true q =
        let all = above-step names key es k (get_or es k d) o (get_or_default es k d (get_or es k d) (omega arith)) q m e le within in
        not_both (is_before key (entry_key names (get_or es m e))) all (subst (λ (x : Entry). is_before key (entry_key names x) ≡ false) is h)

-- an entry of this very key stands right before the place
pub place-is : (names : List (List ℕ)) (key : List ℕ) (es : List Entry) (r k : ℕ) (d : Entry) → AreOrdered names es → IsAbove names key es r → k < length es → entry_key names (get_or es k d) ≡ key → k + 1 ≡ r
place-is names key es r k d o a lt own = elim (cases_lt k r) [
  | inl l ↦ elim (cases_lt (k + 1) r) [
    | inl m ↦ let w = a.within in
        let next : is_before (entry_key names (get_or es k d)) (entry_key names (get_or es (k + 1) d)) ≡ true = o k (k + 1) d (omega arith) (omega arith) in
        not_both (is_before key (entry_key names (get_or es (k + 1) d))) (subst (λ (x : List ℕ). is_before x (entry_key names (get_or es (k + 1) d)) ≡ true) own next) (a.low (k + 1) d m)
    | inr m ↦ omega arith
  ]
  | inr l ↦ let there : is_before key (entry_key names (get_or es k d)) ≡ true = a.high k d l lt in not_both (is_before key key) (subst (λ (x : List ℕ). is_before key x ≡ true) own there) (before-self key)
]

key-cases : (names : List (List ℕ)) (n c : List ℕ) (k : Child) → n ≡ c → (n ++ suffix k ≡ c ++ []) ⊎ (n ++ suffix k ≡ c ++ 47 ∷ [])
key-cases names n c (FileChild l) e = inl (ap (λ (t : List ℕ). t ++ []) e)
key-cases names n c (FolderChild j) e = inr (ap (λ (t : List ℕ). t ++ 47 ∷ []) e)

-- No entry has the name, where neither the one right before a file's place nor the one right before a folder's has it.
pub nowhere : (names : List (List ℕ)) (c : List ℕ) (es : List Entry) (r s : ℕ) → AreOrdered names es → IsAbove names (c ++ []) es r → IsAbove names (c ++ 47 ∷ []) es s
    → ((k : ℕ) (d : Entry) → k + 1 ≡ r → has_name names c (get_or es k d) ≡ false) → ((k : ℕ) (d : Entry) → k + 1 ≡ s → has_name names c (get_or es k d) ≡ false) → All (λ (e : Entry). has_name names c e ≡ false) es
nowhere names c es r s o a b f g k d lt = by_test (has_name names c (get_or es k d)) refl
  where
    by_test : (t : Bool) → has_name names c (get_or es k d) ≡ t → has_name names c (get_or es k d) ≡ false
    by_test false h = h
    by_test true h = elim (key-cases names (name_at names (get_or es k d).name) c (get_or es k d).child (same_is (name_at names (get_or es k d).name) c h)) [
      | inl e ↦ f k d (place-is names (c ++ []) es r k d o a lt e)
      | inr e ↦ g k d (place-is names (c ++ 47 ∷ []) es s k d o b lt e)
    ]

-- the middle stands between
pub middle : (low high : ℕ) → low < high → (low ≤ low + (high - low) / 2) × (low + (high - low) / 2 < high)
middle low high lt = (omega arith, omega arith)

pub name-of : (n : ℕ) (es : List Entry) (i : ℕ) (e : Entry) → All (λ (f : Entry). f.name < n) es → i < length es → e ≡ get_or es i e → e.name < n
name-of n es i e all lt is = subst (λ (f : Entry). f.name < n) (sym is) (all i e lt)
