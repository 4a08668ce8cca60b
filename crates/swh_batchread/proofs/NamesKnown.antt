-- Names that are known, and what is named and is none of them.
use Rattle.std.specs.Prelude.{is_some, IsSome, ◌↔◌}
use Rattle.std.proofs.Common.{◌≡◌, ◌⊎◌, inl, inr, ℕ, zero, suc, ◌+◌, ◌<◌, Bool, true, false, cond, Option, Some, None, List, [], ◌∷◌, ◌++◌, length, get_or, take, drop, Contains, refl, sym, ap, ◌∙◌, subst, arith}
use Rattle.std.specs.Ordering.{nat_cmp, is_eq}
use Rattle.std.specs.Cmp.Lexicographic.{slice_cmp, nat_list_cmp_total}
use Rattle.std.specs.FinMap.{nat_cmp-IsAntisymmetric, slice_cmp-IsAntisymmetric}
use Rattle.std.specs.List.{AllByRecursion}
use Rattle.std.specs.BTreeMap.{is_at}
use Rattle.std.proofs.lemmas.List.Concat.{flat_map-append}
use Rattle.swh_base.specs.declared.entry.Entry.{Entry}
use Rattle.swh_base.specs.declared.kind.Kind.{Kind}
use Rattle.swh_base.specs.declared.name.Name.{Name}
use Rattle.swh_base.proofs.Elementary.{equal_order, own_reverse}
use Rattle.std.proofs.lemmas.List.{append-nil, map-append, take_more}
use Rattle.swh_dedup.specs.Whole.{names_of, HasChildrenAmong}
use Rattle.swh_dedup.proofs.Elements.{first_is, later_is}
use Rattle.swh_batchread.specs.declared.names.Known.{Known}
use Rattle.swh_batchread.specs.declared.names.Names.{Names}
use Rattle.swh_batchread.specs.Refs.{kind_at, HasId}
use Rattle.swh_batchread.specs.RefsFault.{IsFirstLacking, Lacks, LacksKid, kids_of}
use Rattle.swh_batchread.specs.RefSteps.{kind_in, HasIdIn, either, LeadsFirst, knowing, KnowsNames, KnowsObjects, LacksIn}
use Rattle.swh_batchread.proofs.RefsHeld.{push_iff, either_in}

-- ## Ids that are one

pub at_self : (id : List ℕ) → is_at (slice_cmp nat_cmp id) id ≡ true
at_self id = ap is_eq (own_reverse (slice_cmp nat_cmp id id) (nat_list_cmp_total.antisymm id id))

pub same_id : (a b : List ℕ) → is_at (slice_cmp nat_cmp a) b ≡ true → a ≡ b
same_id a b e = slice_cmp-IsAntisymmetric nat_cmp-IsAntisymmetric a b (equal_order (slice_cmp nat_cmp a b) e)

-- ## Kinds of ids

either_none : (o : Option Kind) → either o None ≡ o
either_none None = refl
either_none (Some k) = refl

either_some : (o other : Option Kind) → is_some o ≡ true → either o other ≡ o
either_some None other h = absurd (cc)
either_some (Some k) other h = refl

kind_push : (ns : List Name) (n : Name) (id : List ℕ) → kind_at (ns ++ n ∷ []) id ≡ either (kind_at ns id) (kind_at (n ∷ []) id)
kind_push [] n id = refl
kind_push (m ∷ ns) n id =
    elim (is_at (slice_cmp nat_cmp id) m.id) as (λ b. cond b (Some m.kind) (kind_at (ns ++ n ∷ []) id) ≡ either (cond b (Some m.kind) (kind_at ns id)) (kind_at (n ∷ []) id)) [
      | true ↦ refl
      | false ↦ kind_push ns n id
    ]

abbrev pub name_with : Kind → List ℕ → Name
name_with kind id = record { kind = kind; id = id }

-- an id that leads to a kind is that of a name of this kind
pub kind_found : (ns : List Name) (id : List ℕ) (kind : Kind) → kind_at ns id ≡ Some kind → Contains ns (name_with kind id)
kind_found [] id kind e = absurd (cc)
kind_found (n ∷ ns) id kind e = by_test (kind_found ns id kind) (is_at (slice_cmp nat_cmp id) n.id) refl e
  where
    by_test : (kind_at ns id ≡ Some kind → Contains ns (name_with kind id)) → (b : Bool) → is_at (slice_cmp nat_cmp id) n.id ≡ b → cond b (Some n.kind) (kind_at ns id) ≡ Some kind → Contains (n ∷ ns) (name_with kind id)
    by_test more true t f =
        let same : id ≡ n.id = same_id id n.id t in
        let kinds : n.kind ≡ kind = cc in
        let whole : n ≡ name_with kind id = ap (λ (k : Kind). name_with k n.id) kinds ∙ ap (name_with kind) (sym same) in
        subst (λ (m : Name). Contains (n ∷ ns) m) whole (first_is n ns)
    by_test more false t f = later_is n ns (name_with kind id) (more f)

-- the id leads somewhere already
pub leads_known : (name : Name) (entries : List (List ℕ × Kind)) → is_some (kind_in entries name.id) ≡ true → LeadsFirst name entries entries
leads_known name entries known id = by_test (is_at (slice_cmp nat_cmp id) name.id) refl
  where
    by_test : (b : Bool) → is_at (slice_cmp nat_cmp id) name.id ≡ b → kind_in entries id ≡ either (kind_in entries id) (kind_at (name ∷ []) id)
    by_test true t = sym (either_some (kind_in entries id) (kind_at (name ∷ []) id) (subst (λ (x : List ℕ). is_some (kind_in entries x) ≡ true) (sym (same_id id name.id t)) known))
    by_test false t = sym (ap (λ (b : Bool). either (kind_in entries id) (cond b (Some name.kind) None)) t ∙ either_none (kind_in entries id))

none_of : (o : Option Kind) → is_some o ≡ false → o ≡ None
none_of None h = refl
none_of (Some k) h = absurd (cc)

-- the id led nowhere
pub leads_new : (name : Name) (old new : List (List ℕ × Kind)) → is_some (kind_in old name.id) ≡ false → ((id : List ℕ) → kind_in new id ≡ cond (is_at (slice_cmp nat_cmp name.id) id) (Some name.kind) (kind_in old id)) → LeadsFirst name old new
leads_new name old new none put id = by_test (is_at (slice_cmp nat_cmp name.id) id) refl
  where
    by_test : (b : Bool) → is_at (slice_cmp nat_cmp name.id) id ≡ b → kind_in new id ≡ either (kind_in old id) (kind_at (name ∷ []) id)
    by_test true t =
        let same : name.id ≡ id = same_id name.id id t in
        let nothing : kind_in old id ≡ None = subst (λ (x : List ℕ). kind_in old x ≡ None) same (none_of (kind_in old name.id) none) in
        let here : is_at (slice_cmp nat_cmp id) name.id ≡ true = subst (λ (x : List ℕ). is_at (slice_cmp nat_cmp id) x ≡ true) (sym same) (at_self id) in
        put id ∙ ap (λ (b : Bool). cond b (Some name.kind) (kind_in old id)) t
        ∙ sym (ap (λ (o : Option Kind). either o (kind_at (name ∷ []) id)) nothing ∙ ap (λ (b : Bool). cond b (Some name.kind) None) here)
    by_test false t = put id ∙ ap (λ (b : Bool). cond b (Some name.kind) (kind_in old id)) t ∙ sym (by_other (is_at (slice_cmp nat_cmp id) name.id) refl)
      where
        by_other : (b : Bool) → is_at (slice_cmp nat_cmp id) name.id ≡ b → either (kind_in old id) (kind_at (name ∷ []) id) ≡ kind_in old id
        by_other true u =
            let same : id ≡ name.id = same_id id name.id u in
            let here : is_at (slice_cmp nat_cmp name.id) id ≡ true = subst (λ (x : List ℕ). is_at (slice_cmp nat_cmp x) id ≡ true) same (at_self id) in
            absurd (cc)
        by_other false u = ap (λ (b : Bool). either (kind_in old id) (cond b (Some name.kind) None)) u ∙ either_none (kind_in old id)

-- ## Names that are known

pub known_more : (before : List Name) (name : Name) (old new : Names) → KnowsNames before old → LeadsFirst name old.first.entries new.first.entries → ((n : Name) → Contains new.all n ↔ (Contains old.all n ⊎ (name ≡ n))) → KnowsNames (before ++ name ∷ []) new
known_more before name old new k leads added =
    record {
      first = λ id. leads id ∙ ap (λ (o : Option Kind). either o (kind_at (name ∷ []) id)) (k.first id) ∙ sym (kind_push before name id);
      all = λ n.
          let pushed = push_iff before name n in
          let more = added n in
          (λ c. pushed.1 (either_in (k.all n).0 (more.0 c)), λ c. more.1 (either_in (k.all n).1 (pushed.0 c)));
    }

-- the names of the objects are known
pub names_known : (objects : List Entry) (known : Known) → KnowsObjects objects (knowing known) → KnowsNames (names_of objects) known.names
names_known objects known h = record { first = h.first; all = h.all }

-- one object more is known
pub objects_more : (before : List Entry) (o : Entry) (old new : Known) (name : Name) → KnowsObjects before (knowing old) → name ≡ o.name → KnowsNames (names_of before ++ name ∷ []) new.names → new.kids.items ≡ old.kids.items ++ o.kids → KnowsObjects (before ++ o ∷ []) (knowing new)
objects_more before o old new name knows named names kids =
    let whole : names_of (before ++ o ∷ []) ≡ names_of before ++ o.name ∷ [] = map-append (λ (e : Entry). e.name) before (o ∷ []) in
    let theirs : kids_of (before ++ o ∷ []) ≡ kids_of before ++ o.kids = flat_map-append (λ (e : Entry). e.kids) before (o ∷ []) ∙ ap (λ (t : List Name). kids_of before ++ t) (append-nil o.kids) in
    let known = subst (λ (ns : List Name). KnowsNames ns new.names) (sym whole) (subst (λ (n : Name). KnowsNames (names_of before ++ n ∷ []) new.names) named names) in
    record {
      first = known.first;
      all = known.all;
      kids = kids ∙ ap (λ (t : List Name). t ++ o.kids) knows.kids ∙ sym theirs;
    }

-- the first id that is lacking is that of a child
pub lacks_kid : (known : Names) (ids : List (List ℕ)) (objects : List Entry) (kids others : List Name) (kid : Name) → kids ≡ others → others ≡ kids_of objects → AllByRecursion (HasIdIn known.first.entries) ids → IsFirstLacking (Contains known.all) kids kid → LacksIn known ids objects kid.id
lacks_kid known ids objects kids others kid same are all first = inr (all, record { kid = kid; first = subst (λ (ns : List Name). IsFirstLacking (Contains known.all) ns kid) (same ∙ are) first; id_is = refl })

-- ## What is not there

pub cut_at : {X : Type 0} (xs : List X) (i : ℕ) (d : X) → i < length xs → xs ≡ take i xs ++ get_or xs i d ∷ drop (suc i) xs
cut_at [] i d l = absurd (omega (arith, l))
cut_at (x ∷ xs) zero d l = refl
cut_at (x ∷ xs) (suc i) d l = ap (λ t. x ∷ t) (cut_at xs i d (omega (arith, l)))

-- one element more
pub take_next : {X : Type 0} (xs : List X) (i : ℕ) (x : X) → i < length xs → x ≡ get_or xs i x → take (i + 1) xs ≡ take i xs ++ x ∷ []
take_next {X} xs i x l here = take_more xs i x l ∙ ap (λ (y : X). take i xs ++ y ∷ []) (sym here)

pub all_append : {X : Type 0} (P : X → Type 0) (xs ys : List X) → AllByRecursion P xs → AllByRecursion P ys → AllByRecursion P (xs ++ ys)
all_append P [] ys h k = k
all_append P (x ∷ xs) ys h k = (h.0, all_append P xs ys h.1 k)

all_front : {X : Type 0} (P : X → Type 0) (xs ys : List X) → AllByRecursion P (xs ++ ys) → AllByRecursion P xs × AllByRecursion P ys
all_front P [] ys h = (tt, h)
all_front P (x ∷ xs) ys h = let rest = all_front P xs ys h.1 in ((h.0, rest.0), rest.1)

each_kids : (names : List Name) (objects : List Entry) → AllByRecursion (Contains names) (kids_of objects) → AllByRecursion (HasChildrenAmong names) objects
each_kids names [] h = tt
each_kids names (o ∷ objects) h = let both = all_front (Contains names) o.kids (kids_of objects) h in (both.0, each_kids names objects both.1)

-- all children of the objects are there
pub kids_each : (names : List Name) (objects : List Entry) (kids : List Name) → kids ≡ kids_of objects → AllByRecursion (Contains names) kids → AllByRecursion (HasChildrenAmong names) objects
kids_each names objects kids same h = each_kids names objects (subst (AllByRecursion (Contains names)) same h)

pub first_here : {X : Type 0} (P : X → Type 0) (xs : List X) (i : ℕ) (d : X) → i < length xs → AllByRecursion P (take i xs) → (P (get_or xs i d) → ⊥) → IsFirstLacking P xs (get_or xs i d)
first_here P xs i d l found none = record { before = take i xs; after = drop (suc i) xs; cut = cut_at xs i d l; found = found; none = none }

all_with : {X : Type 0} (P Q : X → Type 0) → ((x : X) → P x → Q x) → (xs : List X) → AllByRecursion P xs → AllByRecursion Q xs
all_with P Q f [] h = tt
all_with P Q f (x ∷ xs) h = (f x h.0, all_with P Q f xs h.1)

first_with : {X : Type 0} (P Q : X → Type 0) (xs : List X) (x : X) → ((y : X) → P y → Q y) → ((y : X) → Q y → P y) → IsFirstLacking P xs x → IsFirstLacking Q xs x
first_with P Q xs x f g h = record { before = h.before; after = h.after; cut = h.cut; found = all_with P Q f h.before h.found; none = λ q. h.none (g x q) }

-- an id that is known to lead somewhere is that of a name, and the other way round
pub id_there : (names : List Name) (known : Names) → KnowsNames names known → (id : List ℕ) → HasIdIn known.first.entries id → HasId names id
id_there names known k id h = subst (λ (o : Option Kind). IsSome o) (k.first id) h

pub id_back : (names : List Name) (known : Names) → KnowsNames names known → (id : List ℕ) → HasId names id → HasIdIn known.first.entries id
id_back names known k id h = subst (λ (o : Option Kind). IsSome o) (sym (k.first id)) h

pub ids_there : (names : List Name) (known : Names) (ids : List (List ℕ)) → KnowsNames names known → AllByRecursion (HasIdIn known.first.entries) ids → AllByRecursion (HasId names) ids
ids_there names known ids k h = all_with (HasIdIn known.first.entries) (HasId names) (id_there names known k) ids h

pub children_there : (names : List Name) (known : Names) (objects : List Entry) → KnowsNames names known → AllByRecursion (HasChildrenAmong known.all) objects → AllByRecursion (HasChildrenAmong names) objects
children_there names known objects k h = all_with (HasChildrenAmong known.all) (HasChildrenAmong names) (λ e c. all_with (Contains known.all) (Contains names) (λ n. (k.all n).0) e.kids c) objects h

pub lacks : (names : List Name) (known : Names) (ids : List (List ℕ)) (objects : List Entry) (id : List ℕ) → KnowsNames names known → LacksIn known ids objects id → Lacks names ids objects id
lacks names known ids objects id k (inl h) = inl (first_with (HasIdIn known.first.entries) (HasId names) ids id (id_there names known k) (id_back names known k) h)
lacks names known ids objects id k (inr h) =
    let lack = h.1 in
    inr (ids_there names known ids k h.0, record { kid = lack.kid; first = first_with (Contains known.all) (Contains names) (kids_of objects) lack.kid (λ n. (k.all n).0) (λ n. (k.all n).1) lack.first; id_is = lack.id_is })

-- an id that is lacking is one that no name has, or that of the first child that is no name
pub may_lack : (names : List Name) (ids : List (List ℕ)) (objects : List Entry) (id : List ℕ) → Lacks names ids objects id → (HasId names id → ⊥) ⊎ LacksKid names objects id
may_lack names ids objects id (inl h) = inl h.none
may_lack names ids objects id (inr h) = inr h.1
