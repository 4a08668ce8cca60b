-- Entries of a map in a list: what an insertion and a removal leave.
use Rattle.std.proofs.Common.{◌≡◌, ◌≢◌, Bool, true, false, cond, List, [], ◌∷◌, Option, Some, None, Contains, inl, inr, refl, sym, ap, ◌∙◌, subst}
use Rattle.std.specs.List.{AllByRecursion}
use Rattle.swh_graph.proofs.Lists.{in_first, in_rest, in_cases, all_of}
use Rattle.std.specs.Ordering.{is_eq, match_ordering}
use Rattle.std.specs.declared.cmp.Ordering.{Ordering}
use Rattle.std.specs.declared.cmp.Ordering.TheVariants.{Less, Equal, Greater}
use Rattle.std.specs.BTreeMap.{insert_entry, is_at}
use Rattle.std.specs.Cmp.{IsTotalOrder, tied_itself, Equal-is}
use Rattle.std.specs.FinMap.{IsAntisymmetric}
use Rattle.std.specs.Map.{lookup, remove_entry}
use Rattle.swh_base.proofs.Elementary.{none_in}

module _ {K : Type 0} (cmp : K → K → Ordering) (total : IsTotalOrder cmp) (exact : IsAntisymmetric cmp) where
  pub at_self : (k : K) → is_at (cmp k) k ≡ true
  at_self k = ap is_eq (tied_itself total k)

  pub not_at : (q k : K) → q ≢ k → is_at (cmp q) k ≡ false
  not_at q k ne = by (is_at (cmp q) k) refl
    where
      by : (b : Bool) → is_at (cmp q) k ≡ b → is_at (cmp q) k ≡ false
      by true e = absurd (ne (exact q k ((Equal-is (cmp q k)).0 e)))
      by false e = e

  turned : (o o' : Ordering) (a b : K) → cmp a b ≡ o → cmp b a ≡ o' → o ≡ Greater → o' ≡ Less
  turned o o' a b e f g = by o' f
    where
      back : cmp a b ≡ Greater
      back = e ∙ g

      by : (x : Ordering) → cmp b a ≡ x → x ≡ Less
      by Less h = refl
      by Equal h = absurd (let same : b ≡ a = exact b a h in let t : cmp a b ≡ Equal = subst (λ (y : K). cmp y b ≡ Equal) same (tied_itself total b) in let bad : Greater ≡ Equal = sym back ∙ t in cc)
      by Greater h = absurd (let t = total.antisymm a b in let bad : Greater ≡ Less = rw (back, h) at t in cc)

module _ {K X : Type 0} (cmp : K → K → Ordering) (total : IsTotalOrder cmp) (exact : IsAntisymmetric cmp) where
  own_by : (o : Ordering) (k : K) (v : X) (e : K × X) (es more : List (K × X)) → cmp k e.0 ≡ o → lookup (is_at (cmp k)) more ≡ Some v → lookup (is_at (cmp k)) (match_ordering o ((k, v) ∷ e ∷ es) ((e.0, v) ∷ es) (e ∷ more)) ≡ Some v
  own_by Less k v e es more is ih = ap (λ (b : Bool). cond b (Some v) (lookup (is_at (cmp k)) (e ∷ es))) (at_self cmp total exact k)
  own_by Equal k v e es more is ih = ap (λ (o : Ordering). cond (is_eq o) (Some v) (lookup (is_at (cmp k)) es)) is
  own_by Greater k v e es more is ih = ap (λ (o : Ordering). cond (is_eq o) (Some e.1) (lookup (is_at (cmp k)) more)) is ∙ ih

  -- what was inserted is found
  pub insert-own : (es : List (K × X)) (k : K) (v : X) → lookup (is_at (cmp k)) (insert_entry cmp es k v) ≡ Some v
  insert-own [] k v = ap (λ (b : Bool). cond b (Some v) None) (at_self cmp total exact k)
  insert-own (e ∷ es) k v = own_by (cmp k e.0) k v e es (insert_entry cmp es k v) refl (insert-own es k v)

  other_by : (o : Ordering) (k q : K) (v : X) (e : K × X) (es more : List (K × X)) → q ≢ k → cmp k e.0 ≡ o → lookup (is_at (cmp q)) more ≡ lookup (is_at (cmp q)) es
      → lookup (is_at (cmp q)) (match_ordering o ((k, v) ∷ e ∷ es) ((e.0, v) ∷ es) (e ∷ more)) ≡ lookup (is_at (cmp q)) (e ∷ es)
  other_by Less k q v e es more ne is ih = ap (λ (b : Bool). cond b (Some v) (lookup (is_at (cmp q)) (e ∷ es))) (not_at cmp total exact q k ne)
  other_by Equal k q v e es more ne is ih =
      let none : is_at (cmp q) e.0 ≡ false = subst (λ (x : K). is_at (cmp q) x ≡ false) (exact k e.0 is) (not_at cmp total exact q k ne) in
      ap (λ (b : Bool). cond b (Some v) (lookup (is_at (cmp q)) es)) none ∙ sym (ap (λ (b : Bool). cond b (Some e.1) (lookup (is_at (cmp q)) es)) none)
  other_by Greater k q v e es more ne is ih = ap (λ (o : Option X). cond (is_at (cmp q) e.0) (Some e.1) o) ih

  -- and all else as before
  pub insert-other : (es : List (K × X)) (k q : K) (v : X) → q ≢ k → lookup (is_at (cmp q)) (insert_entry cmp es k v) ≡ lookup (is_at (cmp q)) es
  insert-other [] k q v ne = ap (λ (b : Bool). cond b (Some v) None) (not_at cmp total exact q k ne)
  insert-other (e ∷ es) k q v ne = other_by (cmp k e.0) k q v e es (insert_entry cmp es k v) ne refl (insert-other es k q v ne)

  removed_by : (b : Bool) (k q : K) (e : K × X) (es more : List (K × X)) → q ≢ k → is_at (cmp k) e.0 ≡ b → lookup (is_at (cmp q)) more ≡ lookup (is_at (cmp q)) es
      → lookup (is_at (cmp q)) (cond b es (e ∷ more)) ≡ lookup (is_at (cmp q)) (e ∷ es)
  removed_by true k q e es more ne is ih =
      let same : k ≡ e.0 = exact k e.0 ((Equal-is (cmp k e.0)).0 is) in
      let none : is_at (cmp q) e.0 ≡ false = subst (λ (x : K). is_at (cmp q) x ≡ false) same (not_at cmp total exact q k ne) in
      sym (ap (λ (b : Bool). cond b (Some e.1) (lookup (is_at (cmp q)) es)) none)
  removed_by false k q e es more ne is ih = ap (λ (o : Option X). cond (is_at (cmp q) e.0) (Some e.1) o) ih

  pub remove-other : (es : List (K × X)) (k q : K) → q ≢ k → lookup (is_at (cmp q)) (remove_entry (is_at (cmp k)) es) ≡ lookup (is_at (cmp q)) es
  remove-other [] k q ne = refl
  remove-other (e ∷ es) k q ne = removed_by (is_at (cmp k) e.0) k q e es (remove_entry (is_at (cmp k)) es) ne refl (remove-other es k q ne)

  -- ## Entries in order

  abbrev pub Sorted : List (K × X) → Type 0
  Sorted [] = Unit {0}
  Sorted (e ∷ es) = AllByRecursion (λ (x : K × X). cmp e.0 x.0 ≡ Less) es × Sorted es

  later : (a b : K) (es : List (K × X)) → cmp a b ≡ Less → AllByRecursion (λ (x : K × X). cmp b x.0 ≡ Less) es → AllByRecursion (λ (x : K × X). cmp a x.0 ≡ Less) es
  later a b [] l h = tt
  later a b (e ∷ es) l h = (total.trans a b e.0 l h.0, later a b es l h.1)

  insert_all : (o : Ordering) (a k : K) (v : X) (e : K × X) (es more : List (K × X)) → cmp a k ≡ Less → cmp a e.0 ≡ Less → AllByRecursion (λ (x : K × X). cmp a x.0 ≡ Less) es → AllByRecursion (λ (x : K × X). cmp a x.0 ≡ Less) more
      → AllByRecursion (λ (x : K × X). cmp a x.0 ≡ Less) (match_ordering o ((k, v) ∷ e ∷ es) ((e.0, v) ∷ es) (e ∷ more))
  insert_all Less a k v e es more l m h ih = (l, (m, h))
  insert_all Equal a k v e es more l m h ih = (m, h)
  insert_all Greater a k v e es more l m h ih = (m, ih)

  all_insert : (a k : K) (v : X) (es : List (K × X)) → cmp a k ≡ Less → AllByRecursion (λ (x : K × X). cmp a x.0 ≡ Less) es → AllByRecursion (λ (x : K × X). cmp a x.0 ≡ Less) (insert_entry cmp es k v)
  all_insert a k v [] l h = (l, tt)
  all_insert a k v (e ∷ es) l h = insert_all (cmp k e.0) a k v e es (insert_entry cmp es k v) l h.0 h.1 (all_insert a k v es l h.1)

  sorted_by : (o : Ordering) (k : K) (v : X) (e : K × X) (es more : List (K × X)) → cmp k e.0 ≡ o → Sorted (e ∷ es) → Sorted more → (o ≡ Greater → AllByRecursion (λ (x : K × X). cmp e.0 x.0 ≡ Less) more)
      → Sorted (match_ordering o ((k, v) ∷ e ∷ es) ((e.0, v) ∷ es) (e ∷ more))
  sorted_by Less k v e es more is s ih all = ((is, later k e.0 es is s.0), s)
  sorted_by Equal k v e es more is s ih all = s
  sorted_by Greater k v e es more is s ih all = (all refl, ih)

  pub insert-sorted : (es : List (K × X)) (k : K) (v : X) → Sorted es → Sorted (insert_entry cmp es k v)
  insert-sorted [] k v s = (tt, tt)
  insert-sorted (e ∷ es) k v s =
      sorted_by (cmp k e.0) k v e es (insert_entry cmp es k v) refl s (insert-sorted es k v s.1)
      (λ g. all_insert e.0 k v es (turned cmp total exact (cmp k e.0) (cmp e.0 k) k e.0 refl refl g) s.0)

  all_removed : (b : Bool) (a : K) (e : K × X) (es more : List (K × X)) → cmp a e.0 ≡ Less → AllByRecursion (λ (x : K × X). cmp a x.0 ≡ Less) es → AllByRecursion (λ (x : K × X). cmp a x.0 ≡ Less) more → AllByRecursion (λ (x : K × X). cmp a x.0 ≡ Less) (cond b es (e ∷ more))
  all_removed true a e es more l h ih = h
  all_removed false a e es more l h ih = (l, ih)

  all_remove : (a k : K) (es : List (K × X)) → AllByRecursion (λ (x : K × X). cmp a x.0 ≡ Less) es → AllByRecursion (λ (x : K × X). cmp a x.0 ≡ Less) (remove_entry (is_at (cmp k)) es)
  all_remove a k [] h = tt
  all_remove a k (e ∷ es) h = all_removed (is_at (cmp k) e.0) a e es (remove_entry (is_at (cmp k)) es) h.0 h.1 (all_remove a k es h.1)

  removed_sorted : (b : Bool) (e : K × X) (es more : List (K × X)) → Sorted (e ∷ es) → AllByRecursion (λ (x : K × X). cmp e.0 x.0 ≡ Less) more → Sorted more → Sorted (cond b es (e ∷ more))
  removed_sorted true e es more s a ih = s.1
  removed_sorted false e es more s a ih = (a, ih)

  pub remove-sorted : (es : List (K × X)) (k : K) → Sorted es → Sorted (remove_entry (is_at (cmp k)) es)
  remove-sorted [] k s = tt
  remove-sorted (e ∷ es) k s = removed_sorted (is_at (cmp k) e.0) e es (remove_entry (is_at (cmp k)) es) s (all_remove e.0 k es s.0) (remove-sorted es k s.1)

  -- nothing is at a key that comes before all
  pub none_before : (k : K) (es : List (K × X)) → AllByRecursion (λ (x : K × X). cmp k x.0 ≡ Less) es → lookup (is_at (cmp k)) es ≡ None
  none_before k [] h = refl
  none_before k (e ∷ es) h = ap (λ (o : Ordering). cond (is_eq o) (Some e.1) (lookup (is_at (cmp k)) es)) h.0 ∙ none_before k es h.1

  gone_by : (b : Bool) (k : K) (e : K × X) (es more : List (K × X)) → is_at (cmp k) e.0 ≡ b → AllByRecursion (λ (x : K × X). cmp e.0 x.0 ≡ Less) es → lookup (is_at (cmp k)) more ≡ None → lookup (is_at (cmp k)) (cond b es (e ∷ more)) ≡ None
  gone_by true k e es more is all ih =
      let same : k ≡ e.0 = exact k e.0 ((Equal-is (cmp k e.0)).0 is) in
      none_before k es (subst (λ (y : K). AllByRecursion (λ (x : K × X). cmp y x.0 ≡ Less) es) (sym same) all)
  gone_by false k e es more is all ih = ap (λ (b : Bool). cond b (Some e.1) (lookup (is_at (cmp k)) more)) is ∙ ih

  -- what was removed is not found
  pub remove-own : (es : List (K × X)) (k : K) → Sorted es → lookup (is_at (cmp k)) (remove_entry (is_at (cmp k)) es) ≡ None
  remove-own [] k s = refl
  remove-own (e ∷ es) k s = gone_by (is_at (cmp k) e.0) k e es (remove_entry (is_at (cmp k)) es) refl s.0 (remove-own es k s.1)

  -- ## Entries in order are told by what is found among them

  found_first : (e : K × X) (es : List (K × X)) → lookup (is_at (cmp e.0)) (e ∷ es) ≡ Some e.1
  found_first e es = ap (λ (b : Bool). cond b (Some e.1) (lookup (is_at (cmp e.0)) es)) (at_self cmp total exact e.0)

  tail_by : (b : Bool) (q : K) (e : K × X) (a k : List (K × X)) → is_at (cmp q) e.0 ≡ b → AllByRecursion (λ (x : K × X). cmp e.0 x.0 ≡ Less) a → AllByRecursion (λ (x : K × X). cmp e.0 x.0 ≡ Less) k
      → cond b (Some e.1) (lookup (is_at (cmp q)) a) ≡ cond b (Some e.1) (lookup (is_at (cmp q)) k) → lookup (is_at (cmp q)) a ≡ lookup (is_at (cmp q)) k
  tail_by true q e a k is ha hk same =
      let own : q ≡ e.0 = exact q e.0 ((Equal-is (cmp q e.0)).0 is) in
      none_before q a (subst (λ (y : K). AllByRecursion (λ (x : K × X). cmp y x.0 ≡ Less) a) (sym own) ha) ∙ sym (none_before q k (subst (λ (y : K). AllByRecursion (λ (x : K × X). cmp y x.0 ≡ Less) k) (sym own) hk))
  tail_by false q e a k is ha hk same = same

  pair_is : (e f : K × X) → e.0 ≡ f.0 → e.1 ≡ f.1 → e ≡ f
  pair_is e f p q =
      let one : K → K × X = λ u. (u, e.1) in
      let two : X → K × X = λ v. (f.0, v) in
      ap one p ∙ ap two q

  same_some : (a b : X) → Some a ≡ Some b → a ≡ b
  same_some a b e = cc

  not_found : (a : X) (o : Option X) → o ≡ None → o ≡ Some a → ⊥
  not_found a o n s = let bad : None ≡ Some a = sym n ∙ s in cc

  first_by : (o : Ordering) (e f : K × X) (es fs : List (K × X)) → cmp e.0 f.0 ≡ o → Sorted (e ∷ es) → Sorted (f ∷ fs) → ((q : K) → lookup (is_at (cmp q)) (e ∷ es) ≡ lookup (is_at (cmp q)) (f ∷ fs)) → e.0 ≡ f.0
  first_by Less e f es fs is a b h = absurd (not_found e.1 (lookup (is_at (cmp e.0)) (f ∷ fs)) (none_before e.0 (f ∷ fs) (is, later e.0 f.0 fs is b.0)) (sym (h e.0) ∙ found_first e es))
  first_by Equal e f es fs is a b h = exact e.0 f.0 is
  first_by Greater e f es fs is a b h =
      let less : cmp f.0 e.0 ≡ Less = turned cmp total exact (cmp e.0 f.0) (cmp f.0 e.0) e.0 f.0 refl refl is in
      absurd (not_found f.1 (lookup (is_at (cmp f.0)) (e ∷ es)) (none_before f.0 (e ∷ es) (less, later f.0 e.0 es less a.0)) (h f.0 ∙ found_first f fs))

  pub same-entries : (a b : List (K × X)) → Sorted a → Sorted b → ((q : K) → lookup (is_at (cmp q)) a ≡ lookup (is_at (cmp q)) b) → a ≡ b
  same-entries [] [] s t h = refl
  same-entries [] (f ∷ fs) s t h = absurd (not_found f.1 (lookup (is_at (cmp f.0)) []) refl (h f.0 ∙ found_first f fs))
  same-entries (e ∷ es) [] s t h = absurd (not_found e.1 (lookup (is_at (cmp e.0)) []) refl (sym (h e.0) ∙ found_first e es))
  same-entries (e ∷ es) (f ∷ fs) s t h =
      let key : e.0 ≡ f.0 = first_by (cmp e.0 f.0) e f es fs refl s t h in
      let value : e.1 ≡ f.1 = same_some e.1 f.1 (sym (found_first e es) ∙ h e.0 ∙ ap (λ (q : K). lookup (is_at (cmp q)) (f ∷ fs)) key ∙ found_first f fs) in
      let own : e ≡ f = pair_is e f key value in
      let behind : AllByRecursion (λ (x : K × X). cmp e.0 x.0 ≡ Less) fs = subst (λ (y : K). AllByRecursion (λ (x : K × X). cmp y x.0 ≡ Less) fs) (sym key) t.0 in
      let rest = same-entries es fs s.1 t.1 (λ q. tail_by (is_at (cmp q) e.0) q e es fs refl s.0 behind (h q ∙ ap (λ (x : K × X). lookup (is_at (cmp q)) (x ∷ fs)) (sym own))) in
      cc

  -- ## What is found is among the entries

  in_by : (b : Bool) (q : K) (v : X) (e : K × X) (es : List (K × X)) → is_at (cmp q) e.0 ≡ b → cond b (Some e.1) (lookup (is_at (cmp q)) es) ≡ Some v → (lookup (is_at (cmp q)) es ≡ Some v → Contains es (q, v)) → Contains (e ∷ es) (q, v)
  in_by true q v e es is h ih =
      let value : e.1 ≡ v = same_some e.1 v h in
      let key : q ≡ e.0 = exact q e.0 ((Equal-is (cmp q e.0)).0 is) in
      subst (λ (x : K × X). Contains (e ∷ es) x) (pair_is e (q, v) (sym key) value) (in_first e es)
  in_by false q v e es is h ih = in_rest e es (q, v) (ih h)

  pub in-found : (es : List (K × X)) (q : K) (v : X) → lookup (is_at (cmp q)) es ≡ Some v → Contains es (q, v)
  in-found [] q v h = absurd cc
  in-found (e ∷ es) q v h = in_by (is_at (cmp q) e.0) q v e es refl h (in-found es q v)

  pub found-in : (es : List (K × X)) (q : K) (v : X) → Sorted es → Contains es (q, v) → lookup (is_at (cmp q)) es ≡ Some v
  found-in [] q v s there = absurd (none_in (q, v) there)
  found-in (e ∷ es) q v s there = elim (in_cases e es (q, v) there) [
    | inl same ↦ subst (λ (x : K × X). lookup (is_at (cmp x.0)) (e ∷ es) ≡ Some x.1) same (found_first e es)
    | inr later ↦
        let before : cmp e.0 q ≡ Less = all_of (λ (x : K × X). cmp e.0 x.0 ≡ Less) es (q, v) s.0 later in
        let other : q ≢ e.0 = λ same. (let self : cmp e.0 e.0 ≡ Equal = tied_itself total e.0 in let bad : Less ≡ Equal = sym before ∙ ap (cmp e.0) same ∙ self in cc) in
        ap (λ (b : Bool). cond b (Some e.1) (lookup (is_at (cmp q)) es)) (not_at cmp total exact q e.0 other) ∙ found-in es q v s.1 later
  ]
