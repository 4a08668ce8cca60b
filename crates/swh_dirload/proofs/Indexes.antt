-- An index of spots, and what it finds.
use Rattle.std.proofs.Common.{◌≡◌, inl, inr, ℕ, ◌+◌, ◌<◌, ◌^◌, Bool, true, false, cond, List, [], ◌∷◌, ◌++◌, length, get_or, Option, Some, None, refl, sym, ap, subst, ◌∙◌, arith}
use Rattle.std.specs.Prelude.{IfSome, IfNone}
use Rattle.std.specs.Global.{Vec}
use Rattle.std.specs.Int.{w64, to_be_bytes, from_be_bytes}
use Rattle.std.specs.Str.{bytes_eq}
use Rattle.std.proofs.lemmas.Nat.{from_be_bytes-to_be_bytes_8}
use Rattle.std.proofs.lemmas.Slice.Eq.{bytes_eq-Decides}
use Rattle.std.proofs.lemmas.Map.Text.{is_eq-slice_cmp}
use Rattle.std.specs.FinMap.{nat_cmp-IsAntisymmetric, slice_cmp-IsAntisymmetric}
use Rattle.std.specs.Ordering.{nat_cmp, is_eq, match_ordering}
use Rattle.std.specs.declared.cmp.Ordering.{Ordering}
use Rattle.std.specs.declared.cmp.Ordering.TheVariants.{Less, Equal, Greater}
use Rattle.std.specs.Cmp.Lexicographic.{slice_cmp, nat_list_cmp_total}
use Rattle.std.specs.BTreeMap.{insert_entry}
use Rattle.std.proofs.lemmas.Bool.{cases_lt, false_from_ne_true as not_true}
use Rattle.swh_base.proofs.Elementary.{equal_order, none_some, own_reverse}
use Rattle.swh_dirmade.specs.declared.spot.Spot.{Spot}
use Rattle.swh_dirmade.specs.Spots.{above_at, name_at, IsTable}
use Rattle.swh_dirload.specs.Index.{key_text, number_of, Adds, LeadsTo, IsIndexTo, IsIndex, IsIn, HasNone}
use Rattle.swh_dirmade.proofs.SpotTables.{above_is, name_is, tree_of}

order_self : (p : List ℕ) → slice_cmp nat_cmp p p ≡ Equal
order_self p = own_reverse (slice_cmp nat_cmp p p) (nat_list_cmp_total.antisymm p p)

same_bytes : (a b : List ℕ) → is_eq (slice_cmp nat_cmp a b) ≡ true → a ≡ b
same_bytes a b e = slice_cmp-IsAntisymmetric nat_cmp-IsAntisymmetric a b (equal_order (slice_cmp nat_cmp a b) e)

swap_tests : (a b : Bool) (x y z : Option ℕ) → (a ≡ true → b ≡ true → x ≡ y) → cond a x (cond b y z) ≡ cond b y (cond a x z)
swap_tests true true x y z h = h refl refl
swap_tests true false x y z h = refl
swap_tests false true x y z h = refl
swap_tests false false x y z h = refl

once : (b : Bool) (x y z : Option ℕ) → cond b x z ≡ cond b x (cond b y z)
once true x y z = refl
once false x y z = refl

inserted-case : (name : List ℕ) (k : Vec ℕ) (n : ℕ) (e : Vec ℕ × ℕ) (es more : List (Vec ℕ × ℕ)) (o : Ordering) → slice_cmp nat_cmp k.items e.0.items ≡ o → number_of more name ≡ cond (is_eq (slice_cmp nat_cmp name k.items)) (Some n) (number_of es name)
    → number_of (match_ordering o ((k, n) ∷ e ∷ es) ((e.0, n) ∷ es) (e ∷ more)) name ≡ cond (is_eq (slice_cmp nat_cmp name k.items)) (Some n) (number_of (e ∷ es) name)
inserted-case name k n e es more Less q h = refl
inserted-case name k n e es more Equal q h =
    let same : k.items ≡ e.0.items = slice_cmp-IsAntisymmetric nat_cmp-IsAntisymmetric k.items e.0.items q in
    ap (λ (t : List ℕ). cond (is_eq (slice_cmp nat_cmp name t)) (Some n) (number_of es name)) (sym same)
    ∙ once (is_eq (slice_cmp nat_cmp name k.items)) (Some n) (Some e.1) (number_of es name)
    ∙ ap (λ (t : List ℕ). cond (is_eq (slice_cmp nat_cmp name k.items)) (Some n) (cond (is_eq (slice_cmp nat_cmp name t)) (Some e.1) (number_of es name))) same
inserted-case name k n e es more Greater q h =
    ap (λ (t : Option ℕ). cond (is_eq (slice_cmp nat_cmp name e.0.items)) (Some e.1) t) h
    ∙ swap_tests (is_eq (slice_cmp nat_cmp name e.0.items)) (is_eq (slice_cmp nat_cmp name k.items)) (Some e.1) (Some n) (number_of es name) (λ a b. never (sym (same_bytes name k.items b) ∙ same_bytes name e.0.items a))
  where
    never : k.items ≡ e.0.items → Some e.1 ≡ Some n
    never s = let self : slice_cmp nat_cmp k.items e.0.items ≡ Equal = subst (λ (t : List ℕ). slice_cmp nat_cmp k.items t ≡ Equal) s (order_self k.items) in absurd (let bad : Greater ≡ Equal = sym q ∙ self in cc)

lookup-inserted : (name : List ℕ) (k : Vec ℕ) (n : ℕ) (es : List (Vec ℕ × ℕ)) → number_of (insert_entry (λ (a b : Vec ℕ). slice_cmp nat_cmp a.items b.items) es k n) name ≡ cond (is_eq (slice_cmp nat_cmp name k.items)) (Some n) (number_of es name)
lookup-inserted name k n [] = refl
lookup-inserted name k n (e ∷ es) = inserted-case name k n e es (insert_entry (λ (a b : Vec ℕ). slice_cmp nat_cmp a.items b.items) es k n) (slice_cmp nat_cmp k.items e.0.items) refl (lookup-inserted name k n es)

pub adds : (old new : List (Vec ℕ × ℕ)) (key : Vec ℕ) (text : List ℕ) (number : ℕ) → key.items ≡ text → new ≡ insert_entry (λ (a b : Vec ℕ). slice_cmp nat_cmp a.items b.items) old key number → Adds old text number new
adds old new key text number k is = λ q.
    ap (λ (es : List (Vec ℕ × ℕ)). number_of es q) is ∙ lookup-inserted q key number old
    ∙ ap (λ (b : Bool). cond b (Some number) (number_of old q)) (is_eq-slice_cmp q key.items)
    ∙ ap (λ (t : List ℕ). cond (bytes_eq q t) (Some number) (number_of old q)) k

-- what stands before and after a number of bytes
cut : (a b x y : List ℕ) → length a ≡ length b → a ++ x ≡ b ++ y → (a ≡ b) × (x ≡ y)
cut [] [] x y l e = (refl, e)
cut [] (d ∷ b) x y l e = absurd (omega (arith, l))
cut (c ∷ a) [] x y l e = absurd (omega (arith, l))
cut (c ∷ a) (d ∷ b) x y l e =
    let after : a ++ x ≡ b ++ y = cc in
    let both = cut a b x y (omega (arith, l)) after in
    let fronts = both.0 in (cc, both.1)

key_cut : (a b : ℕ) (m n : List ℕ) → a < 2 ^ 64 → b < 2 ^ 64 → key_text a m ≡ key_text b n → (a ≡ b) × (m ≡ n)
key_cut a b m n ha hb e =
    let both = cut (to_be_bytes w64 a) (to_be_bytes w64 b) m n refl e in
    (sym (from_be_bytes-to_be_bytes_8 a ha) ∙ ap (from_be_bytes w64) both.0 ∙ from_be_bytes-to_be_bytes_8 b hb, both.1)

pub test_self : (a : List ℕ) → bytes_eq a a ≡ true
test_self a = (bytes_eq-Decides a a).1 refl

pub test_apart : (a b : List ℕ) → (a ≡ b → ⊥) → bytes_eq a b ≡ false
test_apart a b h = not_true (bytes_eq a b) (λ e. h ((bytes_eq-Decides a b).0 e))

pub the_some : (a b : ℕ) → Some a ≡ Some b → a ≡ b
the_some a b e = cc

abbrev key_at : List Spot → ℕ → List ℕ
key_at spots n = key_text (above_at spots n) (name_at spots n)

keys_apart : (spots : List Spot) (n m : ℕ) → IsTable spots → length spots < 2 ^ 64 → 0 < n → n < length spots → 0 < m → m < length spots → key_at spots n ≡ key_at spots m → n ≡ m
keys_apart spots n m table small sn nin sm min e =
    let tree = tree_of spots table in
    let dn = tree.down n sn nin in
    let dm = tree.down m sm min in
    let both = key_cut (above_at spots n) (above_at spots m) (name_at spots n) (name_at spots m) (omega (arith, dn, nin, small)) (omega (arith, dm, min, small)) e in
    tree.once n m sn nin sm min both.0 both.1

-- the index has one spot more
pub index_step : (spots : List Spot) (count : ℕ) (entries entries_now : List (Vec ℕ × ℕ)) → IsTable spots → length spots < 2 ^ 64 → 0 < count → count < length spots → IsIndexTo spots count entries → Adds entries (key_text (above_at spots count) (name_at spots count)) count entries_now → IsIndexTo spots (count + 1) entries_now
index_step spots count entries entries_now table small some lt index added = record { known = known; there = there }
  where
    own : List ℕ
    own = key_at spots count

    known : (n : ℕ) → 0 < n → n < count + 1 → number_of entries_now (key_at spots n) ≡ Some n
    known n sn nlt = elim (cases_lt n count) [
      | inl l ↦
          let apart : bytes_eq (key_at spots n) own ≡ false = test_apart (key_at spots n) own (λ e. let same = keys_apart spots n count table small sn (omega (arith, l, lt)) some lt e in omega (arith, same, l)) in
          added (key_at spots n) ∙ ap (λ (b : Bool). cond b (Some count) (number_of entries (key_at spots n))) apart ∙ index.known n sn l
      | inr l ↦
          let same : count ≡ n = omega (arith, l, nlt) in
          subst (λ (m : ℕ). number_of entries_now (key_at spots m) ≡ Some m) same (added own ∙ ap (λ (b : Bool). cond b (Some count) (number_of entries own)) (test_self own))
    ]

    by_test : (key : List ℕ) (n : ℕ) (b : Bool) → bytes_eq key own ≡ b → number_of entries_now key ≡ Some n → LeadsTo spots (count + 1) key n
    by_test key n true e is =
        let same : count ≡ n = the_some count n (sym (added key ∙ ap (λ (b : Bool). cond b (Some count) (number_of entries key)) e) ∙ is) in
        let here : LeadsTo spots (count + 1) key count = record { behind = some; within = omega arith; spelled = (bytes_eq-Decides key own).0 e } in
        subst (λ (m : ℕ). LeadsTo spots (count + 1) key m) same here
    by_test key n false e is =
        let old = index.there key n (sym (added key ∙ ap (λ (b : Bool). cond b (Some count) (number_of entries key)) e) ∙ is) in
        let within = old.within in
        record { behind = old.behind; within = omega (arith, within); spelled = old.spelled }

    there : (key : List ℕ) (n : ℕ) → number_of entries_now key ≡ Some n → LeadsTo spots (count + 1) key n
    there key n is = by_test key n (bytes_eq key own) refl is

pub index_more : (spots : List Spot) (count : ℕ) (spot : Spot) (text : List ℕ) (entries entries_now : List (Vec ℕ × ℕ)) → IsTable spots → length spots < 2 ^ 64 → 0 < count → count < length spots → IsIndexTo spots count entries → spot ≡ get_or spots count spot → text ≡ spot.name → Adds entries (key_text spot.above text) count entries_now → IsIndexTo spots (count + 1) entries_now
index_more spots count spot text entries entries_now table small some lt index is named added =
    let a : spot.above ≡ above_at spots count = ap (λ (s : Spot). s.above) is ∙ sym (above_is spots count spot lt) in
    let n : text ≡ name_at spots count = named ∙ ap (λ (s : Spot). s.name) is ∙ sym (name_is spots count spot lt) in
    index_step spots count entries entries_now table small some lt index
    (subst (λ (t : List ℕ). Adds entries (key_text (above_at spots count) t) count entries_now) n (subst (λ (b : ℕ). Adds entries (key_text b text) count entries_now) a added))

pub found_in : (spots : List Spot) (entries : List (Vec ℕ × ℕ)) (above : ℕ) (name : List ℕ) (n : ℕ) → IsTable spots → length spots < 2 ^ 64 → above < 2 ^ 64 → IsIndex spots entries → number_of entries (key_text above name) ≡ Some n → IsIn spots above name n
found_in spots entries above name n table small room index is =
    let leads = index.there (key_text above name) n is in
    let tree = tree_of spots table in
    let within = leads.within in
    let down = tree.down n leads.behind leads.within in
    let both = key_cut above (above_at spots n) name (name_at spots n) room (omega (arith, down, within, small)) leads.spelled in
    record { behind = leads.behind; within = leads.within; inside = sym both.0; called = sym both.1 }

pub none_in : (spots : List Spot) (entries : List (Vec ℕ × ℕ)) (above : ℕ) (name : List ℕ) → IsIndex spots entries → number_of entries (key_text above name) ≡ None → HasNone spots above name
none_in spots entries above name index none = λ n is.
    let known = index.known n is.behind is.within in
    let here : number_of entries (key_text above name) ≡ Some n = subst (λ (m : List ℕ). number_of entries (key_text above m) ≡ Some n) is.called (subst (λ (a : ℕ). number_of entries (key_text a (name_at spots n)) ≡ Some n) is.inside known) in
    none_some n (sym none ∙ here)

pub some_in : (found : Option ℕ) (spots : List Spot) (entries : List (Vec ℕ × ℕ)) (above : ℕ) (name key : List ℕ) → IsTable spots → length spots < 2 ^ 64 → above < 2 ^ 64 → IsIndex spots entries → found ≡ number_of entries key → key ≡ key_text above name → IfSome found (IsIn spots above name)
some_in None spots entries above name key table small room index is spelled = tt
some_in (Some n) spots entries above name key table small room index is spelled = found_in spots entries above name n table small room index (sym (is ∙ ap (number_of entries) spelled))

pub no_some_in : (found : Option ℕ) (spots : List Spot) (entries : List (Vec ℕ × ℕ)) (above : ℕ) (name key : List ℕ) → IsIndex spots entries → found ≡ number_of entries key → key ≡ key_text above name → IfNone found (HasNone spots above name)
no_some_in None spots entries above name key index is spelled = none_in spots entries above name index (sym (is ∙ ap (number_of entries) spelled))
no_some_in (Some n) spots entries above name key index is spelled = tt
