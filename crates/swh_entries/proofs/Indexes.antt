-- An index of names, and one name more.
use Rattle.std.proofs.Common.{◌≡◌, inl, inr, ℕ, ◌+◌, ◌<◌, Bool, true, false, cond, List, [], ◌∷◌, ◌++◌, length, Option, Some, None, refl, sym, ap, subst, ◌∙◌, arith, length-append}
use Rattle.std.specs.Global.{Vec}
use Rattle.std.proofs.lemmas.List.{get_or-map, get_or_append_left}
use Rattle.std.proofs.Math.Seq.{get_or-append_seam}
use Rattle.std.proofs.lemmas.Cmp.{nat_cmp_total}
use Rattle.std.specs.FinMap.{nat_cmp-IsAntisymmetric, slice_cmp-IsAntisymmetric}
use Rattle.std.specs.Ordering.{nat_cmp, is_eq, ordering_reverse, match_ordering}
use Rattle.std.specs.declared.cmp.Ordering.{Ordering}
use Rattle.std.specs.declared.cmp.Ordering.TheVariants.{Less, Equal, Greater}
use Rattle.std.specs.Cmp.Lexicographic.{slice_cmp, nat_list_cmp_total}
use Rattle.std.specs.BTreeMap.{insert_entry}
use Rattle.std.proofs.lemmas.Bool.{cases_lt}
use Rattle.swh_entries.specs.Keys.{name_at, texts}
use Rattle.swh_entries.specs.Named.{Extends, digest_of, first_of, number_of, number_from, number_in, IsIndex}

pub extends-push : (names : List (Vec ℕ)) (v : Vec ℕ) → Extends names (names ++ v ∷ [])
extends-push names v = record {
  longer = simp length-append (omega arith);
  same_names = λ i lt. let more : i < length (names ++ v ∷ []) = simp length-append (omega arith) in
      get_or-map (λ (w : Vec ℕ). w.items) (names ++ v ∷ []) i v [] more
      ∙ ap (λ (w : Vec ℕ). w.items) (get_or_append_left names (v ∷ []) v i lt)
      ∙ sym (get_or-map (λ (w : Vec ℕ). w.items) names i v [] lt);
}

pub name-push : (names : List (Vec ℕ)) (v : Vec ℕ) → name_at (texts (names ++ v ∷ [])) (length names) ≡ v.items
name-push names v =
    let more : length names < length (names ++ v ∷ []) = simp length-append (omega arith) in
    get_or-map (λ (w : Vec ℕ). w.items) (names ++ v ∷ []) (length names) v [] more
    ∙ ap (λ (w : Vec ℕ). w.items) (get_or-append_seam names v [] v)

own_reverse : (o : Ordering) → o ≡ ordering_reverse o → o ≡ Equal
own_reverse Less e = absurd (cc)
own_reverse Equal e = refl
own_reverse Greater e = absurd (cc)

order_self : (p : List ℕ) → slice_cmp nat_cmp p p ≡ Equal
order_self p = own_reverse (slice_cmp nat_cmp p p) (nat_list_cmp_total.antisymm p p)

equal_order : (o : Ordering) → is_eq o ≡ true → o ≡ Equal
equal_order Less e = absurd (cc)
equal_order Equal e = refl
equal_order Greater e = absurd (cc)

pub same_bytes : (a b : List ℕ) → is_eq (slice_cmp nat_cmp a b) ≡ true → a ≡ b
same_bytes a b e = slice_cmp-IsAntisymmetric nat_cmp-IsAntisymmetric a b (equal_order (slice_cmp nat_cmp a b) e)

test_self : (a : List ℕ) → is_eq (slice_cmp nat_cmp a a) ≡ true
test_self a = ap is_eq (order_self a)

swap_tests : (a b : Bool) (x y z : Option ℕ) → (a ≡ true → b ≡ true → x ≡ y) → cond a x (cond b y z) ≡ cond b y (cond a x z)
swap_tests true true x y z h = h refl refl
swap_tests true false x y z h = refl
swap_tests false true x y z h = refl
swap_tests false false x y z h = refl

once : (b : Bool) (x y z : Option ℕ) → cond b x z ≡ cond b x (cond b y z)
once true x y z = refl
once false x y z = refl

inserted-case : (name : List ℕ) (k : Vec ℕ) (n : ℕ) (e : Vec ℕ × ℕ) (es more : List (Vec ℕ × ℕ)) (o : Ordering) → slice_cmp nat_cmp k.items e.0.items ≡ o → number_of more name ≡ cond (is_eq (slice_cmp nat_cmp name k.items)) (Some n) (number_of es name)
    → number_of (match_ordering o ((k, n) ∷ e ∷ es) ((e.0, n) ∷ es) (e ∷ more)) name ≡ cond (is_eq (slice_cmp nat_cmp name k.items)) (Some n) (number_of (e ∷ es) name)
inserted-case name k n e es more Less q h = refl
inserted-case name k n e es more Equal q h =
    let same : k.items ≡ e.0.items = slice_cmp-IsAntisymmetric nat_cmp-IsAntisymmetric k.items e.0.items q in
    ap (λ (t : List ℕ). cond (is_eq (slice_cmp nat_cmp name t)) (Some n) (number_of es name)) (sym same)
    ∙ once (is_eq (slice_cmp nat_cmp name k.items)) (Some n) (Some e.1) (number_of es name)
    ∙ ap (λ (t : List ℕ). cond (is_eq (slice_cmp nat_cmp name k.items)) (Some n) (cond (is_eq (slice_cmp nat_cmp name t)) (Some e.1) (number_of es name))) same
inserted-case name k n e es more Greater q h =
    ap (λ (t : Option ℕ). cond (is_eq (slice_cmp nat_cmp name e.0.items)) (Some e.1) t) h
    ∙ swap_tests (is_eq (slice_cmp nat_cmp name e.0.items)) (is_eq (slice_cmp nat_cmp name k.items)) (Some e.1) (Some n) (number_of es name) (λ a b. never (sym (same_bytes name k.items b) ∙ same_bytes name e.0.items a))
  where
    never : k.items ≡ e.0.items → Some e.1 ≡ Some n
    never s = let self : slice_cmp nat_cmp k.items e.0.items ≡ Equal = subst (λ (t : List ℕ). slice_cmp nat_cmp k.items t ≡ Equal) s (order_self k.items) in absurd (let bad : Greater ≡ Equal = sym q ∙ self in cc)

pub lookup-inserted : (name : List ℕ) (k : Vec ℕ) (n : ℕ) (es : List (Vec ℕ × ℕ)) → number_of (insert_entry (λ (a b : Vec ℕ). slice_cmp nat_cmp a.items b.items) es k n) name ≡ cond (is_eq (slice_cmp nat_cmp name k.items)) (Some n) (number_of es name)
lookup-inserted name k n [] = refl
lookup-inserted name k n (e ∷ es) = inserted-case name k n e es (insert_entry (λ (a b : Vec ℕ). slice_cmp nat_cmp a.items b.items) es k n) (slice_cmp nat_cmp k.items e.0.items) refl (lookup-inserted name k n es)

the_some : (a b : ℕ) → Some a ≡ Some b → a ≡ b
the_some a b e = cc

none_some : (x : Option ℕ) (n : ℕ) → x ≡ None → x ≡ Some n → {A : Type 0} → A
none_some x n e f = absurd (let bad : None ≡ Some n = sym e ∙ f in cc)

nat_self : (d : ℕ) → is_eq (nat_cmp d d) ≡ true
nat_self d = ap is_eq (own_reverse (nat_cmp d d) (nat_cmp_total.antisymm d d))

same_number : (a b : ℕ) → is_eq (nat_cmp a b) ≡ true → a ≡ b
same_number a b e = nat_cmp-IsAntisymmetric a b (equal_order (nat_cmp a b) e)

-- names behind those that were there change no number
from-more : (names names' : List (Vec ℕ)) (others others' : List (Vec ℕ × ℕ)) (m : List ℕ) (o : Option ℕ) → Extends names names' → ((k : ℕ) → o ≡ Some k → k < length names) → number_of others' m ≡ number_of others m → number_from (texts names') others' m o ≡ number_from (texts names) others m o
from-more names names' others others' m None more low h = refl
from-more names names' others others' m (Some k) more low h =
    ap (λ (t : List ℕ). cond (is_eq (slice_cmp nat_cmp m t)) (Some k) (number_of others' m)) (more.same_names k (low k refl))
    ∙ ap (λ (x : Option ℕ). cond (is_eq (slice_cmp nat_cmp m (name_at (texts names) k))) (Some k) x) h

-- one name more, of a digest that none has yet
pub index-first : (names : List (Vec ℕ)) (firsts firsts' : List (ℕ × ℕ)) (others : List (Vec ℕ × ℕ)) (name : List ℕ) (text : Vec ℕ) (n : ℕ) → IsIndex names firsts others → text.items ≡ name → n ≡ length names → first_of firsts (digest_of name) ≡ None
    → ((d : ℕ) → first_of firsts' d ≡ cond (is_eq (nat_cmp (digest_of name) d)) (Some n) (first_of firsts d)) → IsIndex (names ++ text ∷ []) firsts' others
index-first names firsts firsts' others name text n index t last none looked = record { known = known; first = first; within = within; there = λ m j h. more.same_names j (index.within m j h) ∙ index.there m j h }
  where
    long : length (names ++ text ∷ []) ≡ length names + 1
    long = length-append names (text ∷ [])

    more : Extends names (names ++ text ∷ [])
    more = extends-push names text

    own : name_at (texts (names ++ text ∷ [])) (length names) ≡ name
    own = name-push names text ∙ t

    old-known : (i : ℕ) → i < length names → (b : Bool) → is_eq (nat_cmp (digest_of name) (digest_of (name_at (texts names) i))) ≡ b → number_in (names ++ text ∷ []) firsts' others (name_at (texts names) i) ≡ Some i
    old-known i lt true e =
        let m = name_at (texts names) i in
        let same : digest_of name ≡ digest_of m = same_number (digest_of name) (digest_of m) e in
        let no : first_of firsts (digest_of m) ≡ None = subst (λ (d : ℕ). first_of firsts d ≡ None) same none in
        none_some (number_in names firsts others m) i (ap (number_from (texts names) others m) no) (index.known i lt)
    old-known i lt false e =
        let m = name_at (texts names) i in
        let kept : first_of firsts' (digest_of m) ≡ first_of firsts (digest_of m) = looked (digest_of m) ∙ ap (λ (b : Bool). cond b (Some n) (first_of firsts (digest_of m))) e in
        ap (number_from (texts (names ++ text ∷ [])) others m) kept
        ∙ from-more names (names ++ text ∷ []) others others m (first_of firsts (digest_of m)) more (λ k h. index.first (digest_of m) k h) refl
        ∙ index.known i lt

    known : (i : ℕ) → i < length (names ++ text ∷ []) → number_in (names ++ text ∷ []) firsts' others (name_at (texts (names ++ text ∷ [])) i) ≡ Some i
    known i lt = elim (cases_lt i (length names)) [
      | inl l ↦ subst (λ (x : List ℕ). number_in (names ++ text ∷ []) firsts' others x ≡ Some i) (sym (more.same_names i l)) (old-known i l (is_eq (nat_cmp (digest_of name) (digest_of (name_at (texts names) i)))) refl)
      | inr l ↦
          let same : length names ≡ i = omega (arith, long) in
          let at : first_of firsts' (digest_of name) ≡ Some (length names) = looked (digest_of name) ∙ ap (λ (b : Bool). cond b (Some n) (first_of firsts (digest_of name))) (nat_self (digest_of name)) ∙ ap Some last in
          let here : number_in (names ++ text ∷ []) firsts' others name ≡ Some (length names) =
          ap (number_from (texts (names ++ text ∷ [])) others name) at
          ∙ ap (λ (x : List ℕ). cond (is_eq (slice_cmp nat_cmp name x)) (Some (length names)) (number_of others name)) own
          ∙ ap (λ (b : Bool). cond b (Some (length names)) (number_of others name)) (test_self name) in
          subst (λ (j : ℕ). number_in (names ++ text ∷ []) firsts' others (name_at (texts (names ++ text ∷ [])) j) ≡ Some j) same (subst (λ (x : List ℕ). number_in (names ++ text ∷ []) firsts' others x ≡ Some (length names)) (sym own) here)
    ]

    first : (d k : ℕ) → first_of firsts' d ≡ Some k → k < length (names ++ text ∷ [])
    first d k h = by_test (is_eq (nat_cmp (digest_of name) d)) refl
      where
        by_test : (b : Bool) → is_eq (nat_cmp (digest_of name) d) ≡ b → k < length (names ++ text ∷ [])
        by_test true e =
            let number : Some n ≡ Some k = sym (looked d ∙ ap (λ (b : Bool). cond b (Some n) (first_of firsts d)) e) ∙ h in
            let is : length names ≡ k = sym last ∙ the_some n k number in
            omega (arith, long)
        by_test false e =
            let number : first_of firsts d ≡ Some k = sym (looked d ∙ ap (λ (b : Bool). cond b (Some n) (first_of firsts d)) e) ∙ h in
            let lt = index.first d k number in
            omega (arith, long)

    within : (m : List ℕ) (k : ℕ) → number_of others m ≡ Some k → k < length (names ++ text ∷ [])
    within m k h = let lt = index.within m k h in omega (arith, long)

-- one name more, behind another that has its digest
pub index-other : (names : List (Vec ℕ)) (firsts : List (ℕ × ℕ)) (others others' : List (Vec ℕ × ℕ)) (name : List ℕ) (text key : Vec ℕ) (f n : ℕ) → IsIndex names firsts others → text.items ≡ name → key.items ≡ name → n ≡ length names → first_of firsts (digest_of name) ≡ Some f
    → is_eq (slice_cmp nat_cmp name (name_at (texts names) f)) ≡ false → number_of others name ≡ None → others' ≡ insert_entry (λ (a b : Vec ℕ). slice_cmp nat_cmp a.items b.items) others key n → IsIndex (names ++ text ∷ []) firsts others'
index-other names firsts others others' name text key f n index t k last at apart none is = record { known = known; first = λ d j h. let lt = index.first d j h in omega (arith, long); within = λ m j h. (found m j h).0; there = λ m j h. (found m j h).1 }
  where
    long : length (names ++ text ∷ []) ≡ length names + 1
    long = length-append names (text ∷ [])

    more : Extends names (names ++ text ∷ [])
    more = extends-push names text

    own : name_at (texts (names ++ text ∷ [])) (length names) ≡ name
    own = name-push names text ∙ t

    looked : (m : List ℕ) → number_of others' m ≡ cond (is_eq (slice_cmp nat_cmp m name)) (Some n) (number_of others m)
    looked m = ap (λ (es : List (Vec ℕ × ℕ)). number_of es m) is ∙ lookup-inserted m key n others ∙ ap (λ (x : List ℕ). cond (is_eq (slice_cmp nat_cmp m x)) (Some n) (number_of others m)) k

    absent : number_in names firsts others name ≡ None
    absent = ap (number_from (texts names) others name) at ∙ ap (λ (b : Bool). cond b (Some f) (number_of others name)) apart ∙ none

    old-known : (i : ℕ) → i < length names → (b : Bool) → is_eq (slice_cmp nat_cmp (name_at (texts names) i) name) ≡ b → number_in (names ++ text ∷ []) firsts others' (name_at (texts names) i) ≡ Some i
    old-known i lt true e =
        let same : name_at (texts names) i ≡ name = same_bytes (name_at (texts names) i) name e in
        none_some (number_in names firsts others name) i absent (subst (λ (x : List ℕ). number_in names firsts others x ≡ Some i) same (index.known i lt))
    old-known i lt false e =
        let m = name_at (texts names) i in
        let kept : number_of others' m ≡ number_of others m = looked m ∙ ap (λ (b : Bool). cond b (Some n) (number_of others m)) e in
        from-more names (names ++ text ∷ []) others others' m (first_of firsts (digest_of m)) more (λ j h. index.first (digest_of m) j h) kept
        ∙ index.known i lt

    known : (i : ℕ) → i < length (names ++ text ∷ []) → number_in (names ++ text ∷ []) firsts others' (name_at (texts (names ++ text ∷ [])) i) ≡ Some i
    known i lt = elim (cases_lt i (length names)) [
      | inl l ↦ subst (λ (x : List ℕ). number_in (names ++ text ∷ []) firsts others' x ≡ Some i) (sym (more.same_names i l)) (old-known i l (is_eq (slice_cmp nat_cmp (name_at (texts names) i) name)) refl)
      | inr l ↦
          let same : length names ≡ i = omega (arith, long) in
          let here : number_in (names ++ text ∷ []) firsts others' name ≡ Some (length names) =
          ap (number_from (texts (names ++ text ∷ [])) others' name) at
          ∙ ap (λ (x : List ℕ). cond (is_eq (slice_cmp nat_cmp name x)) (Some f) (number_of others' name)) (more.same_names f (index.first (digest_of name) f at))
          ∙ ap (λ (b : Bool). cond b (Some f) (number_of others' name)) apart
          ∙ looked name ∙ ap (λ (b : Bool). cond b (Some n) (number_of others name)) (test_self name) ∙ ap Some last in
          subst (λ (j : ℕ). number_in (names ++ text ∷ []) firsts others' (name_at (texts (names ++ text ∷ [])) j) ≡ Some j) same (subst (λ (x : List ℕ). number_in (names ++ text ∷ []) firsts others' x ≡ Some (length names)) (sym own) here)
    ]

    found : (m : List ℕ) (j : ℕ) → number_of others' m ≡ Some j → (j < length (names ++ text ∷ [])) × (name_at (texts (names ++ text ∷ [])) j ≡ m)
    found m j h = by_test (is_eq (slice_cmp nat_cmp m name)) refl
      where
        by_test : (b : Bool) → is_eq (slice_cmp nat_cmp m name) ≡ b → (j < length (names ++ text ∷ [])) × (name_at (texts (names ++ text ∷ [])) j ≡ m)
        by_test true e =
            let same : m ≡ name = same_bytes m name e in
            let number : Some n ≡ Some j = sym (looked m ∙ ap (λ (b : Bool). cond b (Some n) (number_of others m)) e) ∙ h in
            let here : length names ≡ j = sym last ∙ the_some n j number in
            (omega (arith, long), subst (λ (i : ℕ). name_at (texts (names ++ text ∷ [])) i ≡ m) here (own ∙ sym same))
        by_test false e =
            let number : number_of others m ≡ Some j = sym (looked m ∙ ap (λ (b : Bool). cond b (Some n) (number_of others m)) e) ∙ h in
            let lt = index.within m j number in
            (omega (arith, long), more.same_names j lt ∙ index.there m j number)

pub not-known : (x : Option ℕ) → ((n : ℕ) → x ≡ Some n → ⊥) → x ≡ None
not-known None h = refl
not-known (Some n) h = absurd (h n refl)

-- no name stands twice
pub once-each : (names : List (Vec ℕ)) (firsts : List (ℕ × ℕ)) (others : List (Vec ℕ × ℕ)) → IsIndex names firsts others → (i j : ℕ) → i < length names → j < length names → name_at (texts names) i ≡ name_at (texts names) j → i ≡ j
once-each names firsts others index i j li lj e = the_some i j (sym (index.known i li) ∙ ap (number_in names firsts others) e ∙ index.known j lj)
