-- The derived order of names is the one by kind and then by id.
use Rattle.std.proofs.Common.{◌≡◌, ◌⊎◌, ◌||◌, inl, inr, zero, suc, ◌+◌, ◌-◌, [], ◌∷◌, ◌<◌, ◌≤◌, length, get_or, arith, ℕ, Bool, true, false, cond, List, refl, sym, ap, ◌∙◌, subst, Result, Ok, Err}
use Rattle.std.specs.Prelude.{Contains, is_ok}
use Rattle.std.specs.List.{list_any, AllWithin}
use Rattle.std.specs.List.Sorted.{IsStrictlySortedBy, IsBinarySearchResult, IsSearchInRange, IsPartitionPoint, IsSortedWithin}
use Rattle.std.proofs.lemmas.List.Sorted.{searchable_from_sorted}
use Rattle.std.proofs.lemmas.Bool.{cases_lt, or_left, or_right}
use Rattle.std.specs.declared.cmp.Ordering.{Ordering}
use Rattle.std.specs.declared.cmp.Ordering.TheVariants.{Less, Equal, Greater}
use Rattle.std.specs.Ordering.{eq_by_cmp, is_eq, is_lt}
use Rattle.std.specs.Cmp.{eq_by_cmp_equiv, Equal-is, tied_itself}
use Rattle.std.specs.BTreeMap.{is_at}
use Rattle.std.proofs.lemmas.Map.Views.{list_any-from_Contains, Contains-from_any}
use Rattle.swh_base.specs.declared.kind.Kind.{Kind}
use Rattle.swh_base.specs.declared.kind.Kind.TheVariants.{Content, Directory, Revision, Release, Snapshot}
use Rattle.swh_base.specs.declared.name.Name.{Name}
use Rattle.swh_base.specs.Name.{name_cmp, name_cmp_total, name_cmp-IsAntisymmetric}
use Rattle.swh_closure.specs.Certificate.{IsAscending}
use Rattle.swh_base.specs.contracts.name.NameOrd.TheImpl.{cmp-value}

abbrev of : Kind → List ℕ → Name
of k i = record { kind = k; id = i }

by_kinds : (k l : Kind) (i j : List ℕ) → cmp-value.it (of k i) (of l j) ≡ name_cmp (of k i) (of l j)
by_kinds Content Content i j = refl
by_kinds Content Directory i j = refl
by_kinds Content Revision i j = refl
by_kinds Content Release i j = refl
by_kinds Content Snapshot i j = refl
by_kinds Directory Content i j = refl
by_kinds Directory Directory i j = refl
by_kinds Directory Revision i j = refl
by_kinds Directory Release i j = refl
by_kinds Directory Snapshot i j = refl
by_kinds Revision Content i j = refl
by_kinds Revision Directory i j = refl
by_kinds Revision Revision i j = refl
by_kinds Revision Release i j = refl
by_kinds Revision Snapshot i j = refl
by_kinds Release Content i j = refl
by_kinds Release Directory i j = refl
by_kinds Release Revision i j = refl
by_kinds Release Release i j = refl
by_kinds Release Snapshot i j = refl
by_kinds Snapshot Content i j = refl
by_kinds Snapshot Directory i j = refl
by_kinds Snapshot Revision i j = refl
by_kinds Snapshot Release i j = refl
by_kinds Snapshot Snapshot i j = refl

pub derived : (a b : Name) → cmp-value.it a b ≡ name_cmp a b
derived a b = by_kinds a.kind b.kind a.id b.id

pub order_is : cmp-value.it ≡ name_cmp
order_is = λ i a b. derived a b i

-- ---- whether a set has a name

-- whether one of the keys is the name
abbrev finds : List Name → Name → Bool
finds keys n = list_any (is_at (cmp-value.it n)) keys

finds_is : (keys : List Name) (n : Name) → finds keys n ≡ list_any (eq_by_cmp name_cmp n) keys
finds_is keys n = ap (λ (R : Name → Name → Ordering). list_any (is_at (R n)) keys) order_is

same_name : (n m : Name) → eq_by_cmp name_cmp n m ≡ true → n ≡ m
same_name n m t = name_cmp-IsAntisymmetric n m ((Equal-is (name_cmp n m)).0 t)

pub has : (keys : List Name) (n : Name) → finds keys n ≡ true → Contains keys n
has keys n t = Contains-from_any same_name n keys (sym (finds_is keys n) ∙ t)

pub there : (keys : List Name) (n : Name) → Contains keys n → finds keys n ≡ true
there keys n h = finds_is keys n ∙ list_any-from_Contains (eq_by_cmp_equiv name_cmp_total) n keys h

pub not_there : (keys : List Name) (n : Name) → (Contains keys n → ⊥) → finds keys n ≡ false
not_there keys n none =
    elim (finds keys n) as (λ b. finds keys n ≡ b → b ≡ false) [ true ↦ λ t. absurd (none (has keys n t)) | false ↦ λ _. refl ] refl

is_itself : (n : Name) → is_at (cmp-value.it n) n ≡ true
is_itself n = ap (λ (R : Name → Name → Ordering). is_eq (R n n)) order_is ∙ ap is_eq (tied_itself name_cmp_total n)

is_other : (n m : Name) → is_at (cmp-value.it n) m ≡ true → n ≡ m
is_other n m t = same_name n m (sym (ap (λ (R : Name → Name → Ordering). is_eq (R n m)) order_is) ∙ t)

-- ---- a name is put in

module _ (old new : List Name) (name : Name) (updates : (n : Name) → finds new n ≡ cond (is_at (cmp-value.it name) n) true (finds old n)) where
  gained : (n : Name) → Contains new n → Contains old n ⊎ (name ≡ n)
  gained n h =
      elim (is_at (cmp-value.it name) n) as (λ b. is_at (cmp-value.it name) n ≡ b → cond b true (finds old n) ≡ true → Contains old n ⊎ (name ≡ n)) [
        | true ↦ λ e _. inr (is_other name n e)
        | false ↦ λ _ t. inl (has old n t)
      ] refl (sym (updates n) ∙ there new n h)

  kept : (n : Name) → Contains old n ⊎ (name ≡ n) → Contains new n
  kept n (inl h) = has new n (updates n ∙ ap (λ (b : Bool). cond (is_at (cmp-value.it name) n) true b) (there old n h) ∙ always (is_at (cmp-value.it name) n))
    where
      always : (b : Bool) → cond b true true ≡ true
      always true = refl
      always false = refl
  kept n (inr same) = has new n (updates n ∙ ap (λ (b : Bool). cond b true (finds old n)) (ap (λ (m : Name). is_at (cmp-value.it name) m) (sym same) ∙ is_itself name))

  pub put : (n : Name) → (Contains new n → Contains old n ⊎ (name ≡ n)) × (Contains old n ⊎ (name ≡ n) → Contains new n)
  put n = (gained n, kept n)

-- ---- names are joined

either_of : (a b : Bool) → (a || b) ≡ true → (a ≡ true) ⊎ (b ≡ true)
either_of true b e = inl refl
either_of false b e = inr e

-- the keys are those of both lists
module _ (old more new : List Name) (union : (n : Name) → finds new n ≡ (finds old n || finds more n)) where
  pub joined_only : (n : Name) → Contains new n → Contains old n ⊎ Contains more n
  joined_only n h =
      elim (either_of (finds old n) (finds more n) (sym (union n) ∙ there new n h)) [ inl t ↦ inl (has old n t) | inr t ↦ inr (has more n t) ]

  pub joined_stays : (n : Name) → Contains old n → Contains new n
  joined_stays n h = has new n (union n ∙ or_left (finds old n) (finds more n) (there old n h))

  pub joined_all : (n : Name) → Contains more n → Contains new n
  joined_all n h = has new n (union n ∙ or_right (finds old n) (finds more n) (there more n h))

-- ---- ascending lists

pub ascends : (keys : List Name) → IsStrictlySortedBy cmp-value.it keys → IsStrictlySortedBy name_cmp keys
ascends keys h = subst (λ (R : Name → Name → Ordering). IsStrictlySortedBy R keys) order_is h

module _ (names : List Name) (x : Name) (listed : Contains names x) where
  ties : name_cmp (get_or names listed.0 x) x ≡ Equal
  ties = ap (λ (n : Name). name_cmp n x) listed.2 ∙ tied_itself name_cmp_total x

  not_in_front : (i : ℕ) → AllWithin (λ y. name_cmp y x ≡ Less) names 0 i → listed.0 < i → ⊥
  not_in_front i all less = let e : Less ≡ Equal = sym (all listed.0 x (omega arith) less) ∙ ties in cc

  not_behind : (i : ℕ) → AllWithin (λ y. name_cmp y x ≡ Greater) names i (length names) → i ≤ listed.0 → ⊥
  not_behind i all less = let e : Greater ≡ Equal = sym (all listed.0 x less listed.1) ∙ ties in cc

  nowhere : (i : ℕ) → IsPartitionPoint (λ y. name_cmp y x ≡ Less) (λ y. name_cmp y x ≡ Greater) names i → ⊥
  nowhere i parts = elim (cases_lt listed.0 i) [ inl less ↦ not_in_front i parts.0 less | inr more ↦ not_behind i parts.1 more ]

-- what a search by halves says of an ascending list
pub searches : (names : List Name) (x : Name) (r : Result ℕ ℕ) → IsAscending names → IsSearchInRange r (length names) → IsBinarySearchResult (λ y. cmp-value.it y x) names r → (is_ok r ≡ true → Contains names x) × (Contains names x → is_ok r ≡ true)
searches names x (Ok i) up within h = (
  λ _. (i, within, name_cmp-IsAntisymmetric (get_or names i x) x (sym (derived (get_or names i x) x) ∙ h x)),
  λ _. refl,
)
searches names x (Err i) up within h =
    let sorted = searchable_from_sorted name_cmp_total (λ (y : Name). y) names x up in
    let by_name : IsBinarySearchResult (λ y. name_cmp y x) names (Err i) = subst (λ (R : Name → Name → Ordering). IsBinarySearchResult (λ y. R y x) names (Err i)) order_is h in (
      λ t. let e : false ≡ true = t in cc,
      λ listed. absurd (nowhere names x listed i (by_name sorted)),
    )

-- an element that is there is read with any default
pub item_is : (xs : List Name) (i : ℕ) (d e : Name) → i < length xs → get_or xs i d ≡ get_or xs i e
item_is [] i d e less = absurd (omega (arith, less))
item_is (x ∷ xs) zero d e less = refl
item_is (x ∷ xs) (suc i) d e less = item_is xs i d e (omega (arith, less))

abbrev before : Name → Name → Bool
before a b = is_lt (name_cmp a b)

-- one more place at which no name is before the one in front of it
pub sorted_more : (names : List Name) (none : Name) (place : ℕ) → 1 ≤ place → place < length names → IsSortedWithin before names 0 place → before (get_or names place none) (get_or names (place - 1) none) ≡ false
    → IsSortedWithin before names 0 (place + 1)
sorted_more names none place some within up here k d low less =
    elim (cases_lt (k + 1) place) [
      | inl old ↦ up k d low old
      | inr new ↦
          let is : k + 1 ≡ place = omega (arith, new, less) in
          let is_before : place - 1 ≡ k = omega (arith, is) in
          ap (λ (a : Name). before a (get_or names k d)) (ap (λ (i : ℕ). get_or names i d) is ∙ item_is names place d none within)
          ∙ ap (λ (b : Name). before (get_or names place none) b) (item_is names k d none (omega (arith, is, within)) ∙ ap (λ (i : ℕ). get_or names i none) (sym is_before))
          ∙ here
    ]
