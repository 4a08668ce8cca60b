-- What is held of the refs that were read, with one line more.
use Rattle.std.specs.Prelude.{is_some, not, filter, codes, ◌↔◌}
use Rattle.std.proofs.Common.{◌≡◌, ◌⊎◌, inl, inr, ℕ, ◌+◌, ◌<◌, ◌≤◌, Bool, true, false, cond, Some, None, List, [], ◌∷◌, ◌++◌, length, map, Contains, refl, sym, ap, ◌∙◌, subst, arith, length-append}
use Rattle.std.specs.Global.{Vec}
use Rattle.std.specs.declared.cmp.Ordering.{Ordering}
use Rattle.std.specs.declared.cmp.Ordering.TheVariants.{Less, Equal, Greater}
use Rattle.std.specs.Ordering.{nat_cmp, is_eq, match_ordering}
use Rattle.std.specs.Cmp.Lexicographic.{slice_cmp, nat_list_cmp_total}
use Rattle.std.specs.FinMap.{nat_cmp-IsAntisymmetric, slice_cmp-IsAntisymmetric}
use Rattle.std.specs.Map.{lookup}
use Rattle.std.specs.BTreeMap.{is_at, insert_entry}
use Rattle.std.proofs.lemmas.List.{append-nil, map-append}
use Rattle.std.proofs.lemmas.List.Elements.{filter-append, Contains-append_left, Contains-push, Contains-push_cases}
use Rattle.swh_base.proofs.Elementary.{own_reverse}
use Rattle.swh_dedup.proofs.Elements.{first_or_later, first_is, later_is, none_is, contains_map, from_map}
use Rattle.swh_batchread.specs.declared.refs.Refs.{Refs}
use Rattle.swh_batchread.specs.Refs.{RefLine, ref_text, refs_limit, is_peeled, kept_refs, counted_refs, IsNewRef, IsRefLine}
use Rattle.swh_batchread.specs.RefSteps.{line_at, HasNone, Holds, PutsRef, TakesLine}
use Rattle.swh_batchread.specs.RefsFault.{PassesRefs}
use Rattle.swh_batchread.proofs.RefLines.{made, one_ref}

-- ## Entries by name

abbrev cmp : Vec ℕ → Vec ℕ → Ordering
cmp a b = slice_cmp nat_cmp a.items b.items

-- a name is among the entries by this test
abbrev at_name : List ℕ → Vec ℕ → Bool
at_name name k = is_at (slice_cmp nat_cmp name) k.items

cons_iff : {X : Type 0} (y : X) (ys : List X) (e : X) → Contains (y ∷ ys) e ↔ (Contains ys e ⊎ (y ≡ e))
cons_iff {X} y ys e = (λ c. turned (first_or_later y ys e c), back)
  where
    turned : (y ≡ e) ⊎ Contains ys e → Contains ys e ⊎ (y ≡ e)
    turned (inl s) = inr s
    turned (inr c) = inl c

    back : Contains ys e ⊎ (y ≡ e) → Contains (y ∷ ys) e
    back (inl c) = later_is y ys e c
    back (inr s) = subst (λ (z : X). Contains (y ∷ ys) z) s (first_is y ys)

under : {X : Type 0} (y : X) (xs ys : List X) (p e : X) → Contains xs e ↔ (Contains ys e ⊎ (p ≡ e)) → Contains (y ∷ xs) e ↔ (Contains (y ∷ ys) e ⊎ (p ≡ e))
under {X} y xs ys p e h = (λ c. there (first_or_later y xs e c), back)
  where
    deeper : Contains ys e ⊎ (p ≡ e) → Contains (y ∷ ys) e ⊎ (p ≡ e)
    deeper (inl c) = inl (later_is y ys e c)
    deeper (inr s) = inr s

    there : (y ≡ e) ⊎ Contains xs e → Contains (y ∷ ys) e ⊎ (p ≡ e)
    there (inl s) = inl (subst (λ (z : X). Contains (y ∷ ys) z) s (first_is y ys))
    there (inr c) = deeper (h.0 c)

    up : (y ≡ e) ⊎ Contains ys e → Contains (y ∷ xs) e
    up (inl s) = subst (λ (z : X). Contains (y ∷ xs) z) s (first_is y xs)
    up (inr c) = later_is y xs e (h.1 (inl c))

    back : Contains (y ∷ ys) e ⊎ (p ≡ e) → Contains (y ∷ xs) e
    back (inl c) = up (first_or_later y ys e c)
    back (inr s) = later_is y xs e (h.1 (inr s))

-- an entry of a name that is not there comes to the others
pub inserted : (es : List (Vec ℕ × List ℕ)) (k : Vec ℕ) (v : List ℕ) → HasNone es k.items → (e : RefLine) → Contains (map line_at (insert_entry cmp es k v)) e ↔ (Contains (map line_at es) e ⊎ (line_at (k, v) ≡ e))
inserted [] k v none e = cons_iff (line_at (k, v)) [] e
inserted (x ∷ es) k v none e =
    (elim (slice_cmp nat_cmp k.items x.0.items) as (λ o. cond (is_eq o) (Some x.1) (lookup (at_name k.items) es) ≡ None
    → Contains (map line_at (match_ordering o ((k, v) ∷ x ∷ es) ((x.0, v) ∷ es) (x ∷ insert_entry cmp es k v))) e ↔ (Contains (map line_at (x ∷ es)) e ⊎ (line_at (k, v) ≡ e))) [
      | Less ↦ λ h. cons_iff (line_at (k, v)) (map line_at (x ∷ es)) e
      | Equal ↦ λ h. absurd (cc)
      | Greater ↦ λ h. under (line_at x) (map line_at (insert_entry cmp es k v)) (map line_at es) (line_at (k, v)) e (inserted es k v h e)
    ]) none

-- a name that is found is that of an entry
pub found_in : (es : List (Vec ℕ × List ℕ)) (name : List ℕ) → is_some (lookup (at_name name) es) ≡ true → (v : List ℕ) × Contains (map line_at es) (made v name)
found_in [] name h = absurd (cc)
found_in (x ∷ es) name h = by_order (found_in es name) (slice_cmp nat_cmp name x.0.items) refl h
  where
    later : (v : List ℕ) × Contains (map line_at es) (made v name) → (v : List ℕ) × Contains (map line_at (x ∷ es)) (made v name)
    later r = (r.0, later_is (line_at x) (map line_at es) (made r.0 name) r.1)

    by_order : (is_some (lookup (at_name name) es) ≡ true → (v : List ℕ) × Contains (map line_at es) (made v name)) → (o : Ordering) → slice_cmp nat_cmp name x.0.items ≡ o → is_some (cond (is_eq o) (Some x.1) (lookup (at_name name) es)) ≡ true → (v : List ℕ) × Contains (map line_at (x ∷ es)) (made v name)
    by_order more Less e k = later (more k)
    by_order more Equal e k =
        let same = slice_cmp-IsAntisymmetric nat_cmp-IsAntisymmetric name x.0.items e in
        (x.1, subst (λ (n : List ℕ). Contains (map line_at (x ∷ es)) (made x.1 n)) (sym same) (first_is (line_at x) (map line_at es)))
    by_order more Greater e k = later (more k)

same_self : (p : List ℕ) → slice_cmp nat_cmp p p ≡ Equal
same_self p = own_reverse (slice_cmp nat_cmp p p) (nat_list_cmp_total.antisymm p p)

-- no entry has a name that is not found
no_name : (es : List (Vec ℕ × List ℕ)) (name v : List ℕ) → HasNone es name → Contains (map line_at es) (made v name) → ⊥
no_name [] name v none c = none_is (made v name) c
no_name (x ∷ es) name v none c = by_place (no_name es name v) (first_or_later (line_at x) (map line_at es) (made v name) c)
  where
    passed : (o : Ordering) → cond (is_eq o) (Some x.1) (lookup (at_name name) es) ≡ None → lookup (at_name name) es ≡ None
    passed Less h = h
    passed Equal h = absurd (cc)
    passed Greater h = h

    by_place : (HasNone es name → Contains (map line_at es) (made v name) → ⊥) → (line_at x ≡ made v name) ⊎ Contains (map line_at es) (made v name) → ⊥
    by_place more (inl s) =
        let same : x.0.items ≡ name = ap (λ (r : RefLine). r.name) s in
        let found : slice_cmp nat_cmp name x.0.items ≡ Equal = ap (slice_cmp nat_cmp name) same ∙ same_self name in
        let there : cond (is_eq (slice_cmp nat_cmp name x.0.items)) (Some x.1) (lookup (at_name name) es) ≡ Some x.1 = ap (λ (o : Ordering). cond (is_eq o) (Some x.1) (lookup (at_name name) es)) found in
        absurd (cc)
    by_place more (inr d) = more (passed (slice_cmp nat_cmp name x.0.items) none) d

-- ## What is held

-- a name that is found was met
pub met : (rs : List RefLine) (refs : Refs) (name : List ℕ) → Holds rs refs → is_some (lookup (at_name name) refs.by_name.entries) ≡ true → Contains (map (λ r. r.name) (kept_refs rs)) name
met rs refs name h found =
    let e = found_in refs.by_name.entries name found in
    contains_map (λ (r : RefLine). r.name) (kept_refs rs) (made e.0 name) ((h.names (made e.0 name)).0 e.1)

-- one that is not found was not
pub not_met : (rs : List RefLine) (refs : Refs) (name : List ℕ) → Holds rs refs → HasNone refs.by_name.entries name → Contains (map (λ r. r.name) (kept_refs rs)) name → ⊥
not_met rs refs name h none c =
    let r = from_map (λ (r : RefLine). r.name) (kept_refs rs) name c in
    let there = (h.names r.0).1 r.1 in
    no_name refs.by_name.entries name r.0.id none (subst (λ (n : List ℕ). Contains (map line_at refs.by_name.entries) (made r.0.id n)) r.2 there)

kept_push : (rs : List RefLine) (r : RefLine) → is_peeled r.name ≡ false → kept_refs (rs ++ r ∷ []) ≡ kept_refs rs ++ r ∷ []
kept_push rs r p = filter-append (λ (r : RefLine). not (is_peeled r.name)) rs (r ∷ []) ∙ ap (λ (b : Bool). kept_refs rs ++ cond (not b) (r ∷ []) []) p

kept_same : (rs : List RefLine) (r : RefLine) → is_peeled r.name ≡ true → kept_refs (rs ++ r ∷ []) ≡ kept_refs rs
kept_same rs r p = filter-append (λ (r : RefLine). not (is_peeled r.name)) rs (r ∷ []) ∙ ap (λ (b : Bool). kept_refs rs ++ cond (not b) (r ∷ []) []) p ∙ append-nil (kept_refs rs)

abbrev is_head : List ℕ → Bool
is_head name = is_at (slice_cmp nat_cmp (codes "HEAD")) name

one_or_none : (r : RefLine) (b : Bool) → length (cond (not b) (r ∷ []) []) ≡ cond b 0 1
one_or_none r true = refl
one_or_none r false = refl

pub counted_push : (rs : List RefLine) (r : RefLine) → is_peeled r.name ≡ false → length (counted_refs (rs ++ r ∷ [])) ≡ length (counted_refs rs) + cond (is_head r.name) 0 1
counted_push rs r p =
    ap (λ (ks : List RefLine). length (filter (λ (r : RefLine). not (is_head r.name)) ks)) (kept_push rs r p)
    ∙ ap length (filter-append (λ (r : RefLine). not (is_head r.name)) (kept_refs rs) (r ∷ []))
    ∙ length-append (counted_refs rs) (cond (not (is_head r.name)) (r ∷ []) [])
    ∙ ap (λ (n : ℕ). length (counted_refs rs) + n) (one_or_none r (is_head r.name))

-- one more at the end
pub push_iff : {X : Type 0} (xs : List X) (x e : X) → Contains (xs ++ x ∷ []) e ↔ (Contains xs e ⊎ (x ≡ e))
push_iff {X} xs x e = (λ c. Contains-push_cases xs x e c, back)
  where
    back : Contains xs e ⊎ (x ≡ e) → Contains (xs ++ x ∷ []) e
    back (inl c) = Contains-append_left xs (x ∷ []) e c
    back (inr s) = subst (λ (y : X). Contains (xs ++ x ∷ []) y) s (Contains-push xs x)

pub either_in : {P Q R : Type 0} → (P → Q) → P ⊎ R → Q ⊎ R
either_in f (inl p) = inl (f p)
either_in f (inr r) = inr r

-- one ref more
pub held_more : (rs : List RefLine) (r : RefLine) (counted : ℕ) (old new : Refs) → Holds rs old → is_peeled r.name ≡ false → PutsRef r counted old new → counted ≡ old.counted + cond (is_head r.name) 0 1 → counted ≤ refs_limit → Holds (rs ++ r ∷ []) new
held_more rs r counted old new h peeled p count few =
    let kept = kept_push rs r peeled in
    let long = counted_push rs r peeled in
    let so_far = h.counted in
    let here = p.count in
    record {
      ids = p.ids ∙ ap (λ (t : List (List ℕ)). t ++ r.id ∷ []) h.ids ∙ sym (ap (map (λ (r : RefLine). r.id)) kept ∙ map-append (λ (r : RefLine). r.id) (kept_refs rs) (r ∷ []));
      names = λ q.
          let added = p.names q in
          let pushed = push_iff (kept_refs rs) r q in (
            λ c. subst (λ (ks : List RefLine). Contains ks q) (sym kept) (pushed.1 (either_in (h.names q).0 (added.0 c))),
            λ c. added.1 (either_in (h.names q).1 (pushed.0 (subst (λ (ks : List RefLine). Contains ks q) kept c))),
          );
      counted = omega (arith, long, so_far, here, count);
      few = omega (arith, long, so_far, count, few);
    }

-- a ref is added at the end, and among the others by its name
pub puts : (r : RefLine) (counted : ℕ) (old new : Refs) (key : Vec ℕ) → HasNone old.by_name.entries r.name → key.items ≡ r.name → new.ids.items ≡ old.ids.items ++ r.id ∷ [] → new.by_name.entries ≡ insert_entry cmp old.by_name.entries key r.id → new.counted ≡ counted → PutsRef r counted old new
puts r counted old new key none named ids entries count =
    let same : line_at (key, r.id) ≡ r = ap (made r.id) named in
    record {
      ids = ids;
      names = λ q.
          let added = inserted old.by_name.entries key r.id (subst (HasNone old.by_name.entries) (sym named) none) q in
          subst (λ (es : List (Vec ℕ × List ℕ)). Contains (map line_at es) q ↔ (Contains (map line_at old.by_name.entries) q ⊎ (r ≡ q))) (sym entries)
          (subst (λ (x : RefLine). Contains (map line_at (insert_entry cmp old.by_name.entries key r.id)) q ↔ (Contains (map line_at old.by_name.entries) q ⊎ (x ≡ q))) same added);
      count = count;
    }

-- a line of no ref changes nothing
pub held_same : (rs : List RefLine) (r : RefLine) (refs : Refs) → Holds rs refs → is_peeled r.name ≡ true → Holds (rs ++ r ∷ []) refs
held_same rs r refs h peeled =
    let kept = kept_same rs r peeled in
    let same : counted_refs (rs ++ r ∷ []) ≡ counted_refs rs = ap (filter (λ (r : RefLine). not (is_head r.name))) kept in
    record {
      ids = h.ids ∙ sym (ap (map (λ (r : RefLine). r.id)) kept);
      names = λ q. (λ c. subst (λ (ks : List RefLine). Contains ks q) (sym kept) ((h.names q).0 c), λ c. (h.names q).1 (subst (λ (ks : List RefLine). Contains ks q) kept c));
      counted = h.counted ∙ sym (ap length same);
      few = subst (λ (n : ℕ). n ≤ refs_limit) (sym (ap length same)) h.few;
    }

-- ## A line

pub same_ref : (line : List ℕ) (r q : RefLine) → IsRefLine r → IsRefLine q → line ≡ ref_text r → line ≡ ref_text q → r ≡ q
same_ref line r q is js e d = (one_ref r q [] [] is js (ap (λ (t : List ℕ). t ++ []) (sym e ∙ d))).0

pub takes_peeled : (rs : List RefLine) (line : List ℕ) (r : RefLine) (refs : Refs) → Holds rs refs → IsRefLine r → line ≡ ref_text r → is_peeled r.name ≡ true → TakesLine rs line refs
takes_peeled rs line r refs h is e peeled = record { ref = r; is = is; spelled = e; fresh = λ not_peeled. absurd (cc); held = held_same rs r refs h peeled }

pub takes_ref : (rs : List RefLine) (line : List ℕ) (r : RefLine) (counted : ℕ) (old new : Refs) → Holds rs old → IsRefLine r → line ≡ ref_text r → is_peeled r.name ≡ false → HasNone old.by_name.entries r.name → PutsRef r counted old new
    → counted ≡ old.counted + cond (is_head r.name) 0 1 → counted ≤ refs_limit → TakesLine rs line new
takes_ref rs line r counted old new h is e peeled none p count few =
    record { ref = r; is = is; spelled = e; fresh = λ _. not_met rs old r.name h none; held = held_more rs r counted old new h peeled p count few }

pub met_again : (rs : List RefLine) (line : List ℕ) (r : RefLine) → IsRefLine r → line ≡ ref_text r → is_peeled r.name ≡ false → Contains (map (λ o. o.name) (kept_refs rs)) r.name → (q : RefLine) → IsRefLine q → line ≡ ref_text q → IsNewRef rs q → ⊥
met_again rs line r is e peeled c q js d fresh =
    let same = same_ref line r q is js e d in
    fresh (subst (λ (x : RefLine). is_peeled x.name ≡ false) same peeled) (subst (λ (x : RefLine). Contains (map (λ o. o.name) (kept_refs rs)) x.name) same c)

pub passes_refs : (rs : List RefLine) (line : List ℕ) (r : RefLine) (counted : ℕ) (refs : Refs) → Holds rs refs → IsRefLine r → line ≡ ref_text r → is_peeled r.name ≡ false → HasNone refs.by_name.entries r.name → counted ≡ refs.counted + cond (is_head r.name) 0 1 → refs_limit < counted → PassesRefs rs line
passes_refs rs line r counted refs h is e peeled none count above =
    let so_far = h.counted in
    record { ref = r; is = is; spelled = e; new = λ _. not_met rs refs r.name h none; above = omega (arith, counted_push rs r peeled, so_far, count, above) }
