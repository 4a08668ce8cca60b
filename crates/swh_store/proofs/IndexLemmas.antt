-- Entries in the order of their adding as finite maps, and what is found of a name among them.
use Rattle.std.proofs.Common.{◌≡◌, ◌≢◌, ◌⊎◌, inl, inr, ℕ, zero, suc, ◌+◌, ◌<◌, Bool, true, false, cond, Option, Some, None, List, [], ◌∷◌, ◌++◌, append-nil, append_assoc, length, take, get_or, refl, sym, ap, ◌∙◌, subst, arith}
use Rattle.std.specs.List.{AllByRecursion}
use Rattle.std.specs.Ordering.{eq_by_cmp, is_eq}
use Rattle.std.specs.Cmp.{tied_itself, Equal-is}
use Rattle.std.specs.Cmp.Lexicographic.{nat_list_cmp_total}
use Rattle.std.specs.BTreeMap.{is_at}
use Rattle.std.specs.FinMap as finite
use Rattle.std.specs.Prelude.{is_some}
use Rattle.std.proofs.Math.Seq.{get_or-append_seam}
use Rattle.std.proofs.lemmas.List.{get_or_append_left, get_or_default, get_or-take, length-append, length-take-le}
use Rattle.swh_base.specs.declared.name.Name.{Name}
use Rattle.swh_base.specs.declared.entry.Entry.{Entry}
use Rattle.swh_base.specs.Name.{IsByte, name_key, name_cmp, name_cmp_total, name_cmp-IsAntisymmetric}
use Rattle.swh_base.specs.Manifest.{AreChildren}
use Rattle.swh_model.specs.Archive.{AreAllOfBytes, Bodies, body_of, IsGraphOf}
use Rattle.swh_model.specs.Step.{HasItsChildren, AreNew, added}
use Rattle.swh_model.proofs.Maps.{added-all, body-put, body_cases}
use Rattle.swh_model.proofs.Entries.{NoneNamed, none_named, none-empty, added-append, new-at}
use Rattle.swh_store.specs.Stored.{Children, IsEntryOf, children_in}
use Rattle.swh_store.specs.Entries.{keys_cmp, bodies_in, with_children, stored_in, StandsAt, IsNamed, IsFound}

-- whether a key is the queried one
abbrev pub at : List ℕ → List ℕ → Bool
at q = is_at (keys_cmp q)

pub same_key : (n m : Name) → at (name_key n) (name_key m) ≡ true → n ≡ m
same_key n m t = name_cmp-IsAntisymmetric n m ((Equal-is (keys_cmp (name_key n) (name_key m))).0 t)

pub key_itself : (n : Name) → at (name_key n) (name_key n) ≡ true
key_itself n = ap is_eq (tied_itself nat_list_cmp_total (name_key n))

-- the children put in at their name, and elsewhere what was there
children_cases : (children : Children) (n : Name) (kids : List Name) (q : Name) (P : Option (List Name) → Type 0) → (q ≡ n → P (Some kids)) → P (finite.get children q) → P (finite.get (finite.insert children n kids) q)
children_cases children n kids q P here else_ =
    subst P (sym (finite.get-insert name_cmp_total children n kids q))
    (elim (eq_by_cmp name_cmp q n) as (λ t. eq_by_cmp name_cmp q n ≡ t → P (cond t (Some kids) (finite.get children q))) [
      | true ↦ λ t. here (same_key q n t)
      | false ↦ λ _. else_
    ] refl)

children-put : (children : Children) (n : Name) (kids : List Name) → finite.get (finite.insert children n kids) n ≡ Some kids
children-put children n kids = finite.get-insert name_cmp_total children n kids n ∙ ap (λ (b : Bool). cond b (Some kids) (finite.get children n)) (key_itself n)

-- ---- one entry more, at the end

pub bodies-push : (es : List Entry) (e : Entry) → bodies_in (es ++ e ∷ []) ≡ finite.insert (bodies_in es) e.name e.body
bodies-push es e = added-append finite.empty es (e ∷ [])

children-append : (children : Children) (es fs : List Entry) → with_children children (es ++ fs) ≡ with_children (with_children children es) fs
children-append children [] fs = refl
children-append children (e ∷ es) fs = children-append (finite.insert children e.name e.kids) es fs

children-push : (es : List Entry) (e : Entry) (n : Name) → children_in (stored_in (es ++ e ∷ [])) n ≡ finite.get (finite.insert (with_children finite.empty es) e.name e.kids) n
children-push es e n = ap (λ (c : Children). finite.get c n) (children-append finite.empty es (e ∷ []))

-- where the name is another, what is held of it stays
pub body-other : (es : List Entry) (e : Entry) (n : Name) → n ≢ e.name → body_of (bodies_in (es ++ e ∷ [])) n ≡ body_of (bodies_in es) n
body-other es e n apart =
    ap (λ (b : Bodies). body_of b n) (bodies-push es e) ∙ body_cases (bodies_in es) e.name e.body n (λ o. o ≡ body_of (bodies_in es) n) (λ same. absurd (apart same)) refl

children-other : (es : List Entry) (e : Entry) (n : Name) → n ≢ e.name → children_in (stored_in (es ++ e ∷ [])) n ≡ children_in (stored_in es) n
children-other es e n apart =
    children-push es e n
    ∙ children_cases (with_children finite.empty es) e.name e.kids n (λ o. o ≡ finite.get (with_children finite.empty es) n) (λ same. absurd (apart same)) refl

entry-last : (es : List Entry) (e : Entry) → HasItsChildren e → IsEntryOf (stored_in (es ++ e ∷ [])) e.name e
entry-last es e good =
    record {
      name = refl;
      held = ap (λ (b : Bodies). body_of b e.name) (bodies-push es e) ∙ body-put (bodies_in es) e.name e.body;
      kids = children-push es e e.name ∙ children-put (with_children finite.empty es) e.name e.kids;
      good = good;
    }

-- ---- what is found of a name

pub finds-more : (es : List Entry) (e : Entry) (n : Name) (o : Option ℕ) → n ≢ e.name → IsFound es n o → IsFound (es ++ e ∷ []) n o
finds-more es e n None apart none = body-other es e n apart ∙ none
finds-more es e n (Some place) apart s =
    record {
      entry = s.entry;
      inside = let len = length-append es (e ∷ []) in let less = s.inside in omega (arith, len, less);
      there = s.there ∙ sym (get_or_append_left es (e ∷ []) s.entry place s.inside);
      is = record {
        name = s.is.name;
        held = body-other es e n apart ∙ s.is.held;
        kids = children-other es e n apart ∙ s.is.kids;
        good = s.is.good;
      };
    }

pub finds-last : (es : List Entry) (e : Entry) (n : Name) → n ≡ e.name → HasItsChildren e → StandsAt (es ++ e ∷ []) n (length es)
finds-last es e n same good =
    record {
      entry = e;
      inside = let len = length-append es (e ∷ []) in omega (arith, len);
      there = sym (get_or-append_seam es e [] e);
      is = subst (λ (m : Name). IsEntryOf (stored_in (es ++ e ∷ [])) m e) (sym same) (entry-last es e good);
    }

pub apart-by_key : (n m : Name) → at (name_key m) (name_key n) ≡ false → n ≢ m
apart-by_key n m f same = let t : at (name_key m) (name_key n) ≡ true = ap (λ (k : Name). at (name_key m) (name_key k)) same ∙ key_itself m in let g : true ≡ false = sym t ∙ f in cc

pub new_front : (bodies : Bodies) (es fs : List Entry) → AreNew bodies (es ++ fs) → AreNew bodies es
new_front bodies [] fs h = tt
new_front bodies (e ∷ es) fs h = (h.0, new_front (finite.insert bodies e.name e.body) es fs h.1)

pub new-last : (bodies : Bodies) (es : List Entry) (e : Entry) → AreNew bodies (es ++ e ∷ []) → body_of (added bodies es) e.name ≡ None
new-last bodies [] e h = h.0
new-last bodies (x ∷ es) e h = new-last (finite.insert bodies x.name x.body) es e h.1

pub finds-fewer : (es : List Entry) (e : Entry) (n : Name) (o : Option ℕ) → n ≢ e.name → IsFound (es ++ e ∷ []) n o → IsFound es n o
finds-fewer es e n None apart none = sym (body-other es e n apart) ∙ none
finds-fewer es e n (Some place) apart s =
    record {
      entry = s.entry;
      inside = less;
      there = s.there ∙ get_or_append_left es (e ∷ []) s.entry place less;
      is = record {
        name = s.is.name;
        held = sym (body-other es e n apart) ∙ s.is.held;
        kids = sym (children-other es e n apart) ∙ s.is.kids;
        good = s.is.good;
      };
    }
  where
    not_last : place ≡ length es → ⊥
    not_last same =
        let is_e : s.entry ≡ e = s.there ∙ ap (λ (k : ℕ). get_or (es ++ e ∷ []) k s.entry) same ∙ get_or-append_seam es e [] s.entry in
        apart (sym s.is.name ∙ ap (λ (x : Entry). x.name) is_e)

    less : place < length es
    less = let len = length-append es (e ∷ []) in let inside = s.inside in omega (arith, len, inside, not_last)

found-more : (before es : List Entry) → ((n : Name) → (o : Option ℕ) × IsFound before n o) → AllByRecursion HasItsChildren es → AreNew (bodies_in before) es → (n : Name) → (o : Option ℕ) × IsFound (before ++ es) n o
found-more before [] finds good new n = subst (λ (l : List Entry). (o : Option ℕ) × IsFound l n o) (sym (append-nil before)) (finds n)
found-more before (e ∷ es) finds good new n =
    subst (λ (l : List Entry). (o : Option ℕ) × IsFound l n o) (append_assoc before (e ∷ []) es)
    (found-more (before ++ e ∷ []) es next good.1 (subst (λ b. AreNew b es) (sym (bodies-push before e)) new.1) n)
  where
    next : (m : Name) → (o : Option ℕ) × IsFound (before ++ e ∷ []) m o
    next m =
        elim (at (name_key e.name) (name_key m)) as (λ b. at (name_key e.name) (name_key m) ≡ b → (o : Option ℕ) × IsFound (before ++ e ∷ []) m o) [
          | true ↦ λ t. (Some (length before), finds-last before e m (sym (same_key e.name m t)) good.0)
          | false ↦ λ f. ((finds m).0, finds-more before e m (finds m).0 (apart-by_key m e.name f) (finds m).1)
        ] refl

-- among good entries that are new each name is found, or it is not held
finds : (es : List Entry) → AllByRecursion HasItsChildren es → AreNew finite.empty es → (n : Name) → (o : Option ℕ) × IsFound es n o
finds es = found-more [] es (λ n. (None, none-empty n))

named_not : (es : List Entry) (n : Name) (k : ℕ) (d : Entry) → NoneNamed n es → k < length es → (get_or es k d).name ≡ n → ⊥
named_not [] n k d none less is = absurd (omega (arith, less))
named_not (e ∷ es) n zero d none less is = none.0 is
named_not (e ∷ es) n (suc k) d none less is = named_not es n k d none.1 (omega (arith, less)) is

one_of : (es : List Entry) (place : ℕ) → place < length es → Entry
one_of [] place less = absurd (omega (arith, less))
one_of (e ∷ es) place less = e

-- a name that an entry has is held
pub named_held : (es : List Entry) (n : Name) (place : ℕ) → AreNew finite.empty es → IsNamed es n place → body_of (bodies_in es) n ≡ None → ⊥
named_held es n place new is none =
    let e : Entry = one_of es place is.0 in
    named_not es n place e (none_named finite.empty es n none) is.0 (is.1 e)

pub three_ways : (a b : ℕ) → (a < b) ⊎ ((b < a) ⊎ (a ≡ b))
three_ways zero zero = inr (inr refl)
three_ways zero (suc b) = inl (omega arith)
three_ways (suc a) zero = inr (inl (omega arith))
three_ways (suc a) (suc b) = by_rest (three_ways a b)
  where
    by_rest : (a < b) ⊎ ((b < a) ⊎ (a ≡ b)) → (suc a < suc b) ⊎ ((suc b < suc a) ⊎ (suc a ≡ suc b))
    by_rest (inl less) = inl (omega (arith, less))
    by_rest (inr (inl more)) = inr (inl (omega (arith, more)))
    by_rest (inr (inr same)) = inr (inr (ap suc same))

-- no earlier entry has the name of a later one
pub no_twin : (es : List Entry) (n : Name) (i j : ℕ) → AreNew finite.empty es → i < j → IsNamed es n i → IsNamed es n j → ⊥
no_twin es n i j new less a b =
    let d : Entry = one_of es j b.0 in
    let f : Entry = get_or es j d in
    let none : body_of (added finite.empty (take j es)) f.name ≡ None = new-at finite.empty es j f b.0 (get_or_default es j d f b.0) new in
    let none_n : body_of (added finite.empty (take j es)) n ≡ None = subst (λ (m : Name). body_of (added finite.empty (take j es)) m ≡ None) (b.1 d) none in
    let inside_j = b.0 in
    let len : length (take j es) ≡ j = length-take-le j es (omega (arith, inside_j)) in
    named_not (take j es) n i d (none_named finite.empty (take j es) n none_n) (omega (arith, len, less)) (ap (λ (x : Entry). x.name) (get_or-take j es i d less) ∙ a.1 d)

pub as_named : (es : List Entry) (n : Name) (place : ℕ) → StandsAt es n place → IsNamed es n place
as_named es n place s = (s.inside, λ d. ap (λ (x : Entry). x.name) (sym (s.there ∙ get_or_default es place s.entry d s.inside)) ∙ s.is.name)

-- where an entry has the name, the name's entry stands
pub stands : (es : List Entry) (n : Name) (place : ℕ) → AllByRecursion HasItsChildren es → AreNew finite.empty es → IsNamed es n place → StandsAt es n place
stands es n place good new is = by_found (finds es good new n).0 (finds es good new n).1
  where
    by_place : (k : ℕ) → StandsAt es n k → (place < k) ⊎ ((k < place) ⊎ (place ≡ k)) → StandsAt es n place
    by_place k s (inl less) = absurd (no_twin es n place k new less is (as_named es n k s))
    by_place k s (inr (inl more)) = absurd (no_twin es n k place new more (as_named es n k s) is)
    by_place k s (inr (inr same)) = subst (StandsAt es n) (sym same) s

    by_found : (o : Option ℕ) → IsFound es n o → StandsAt es n place
    by_found None none = absurd (named_held es n place new is none)
    by_found (Some k) s = by_place k s (three_ways place k)

-- a name that no entry has is not held
pub unnamed : (es : List Entry) (n : Name) → AllByRecursion HasItsChildren es → AreNew finite.empty es → ((place : ℕ) → IsNamed es n place → ⊥) → body_of (bodies_in es) n ≡ None
unnamed es n good new none = by_found (finds es good new n).0 (finds es good new n).1
  where
    by_found : (o : Option ℕ) → IsFound es n o → body_of (bodies_in es) n ≡ None
    by_found None is = is
    by_found (Some k) s = absurd (none k (as_named es n k s))

-- what stands at a place, as it was read there
pub read_there : (es : List Entry) (n : Name) (place : ℕ) (e : Entry) → StandsAt es n place → e ≡ get_or es place e → IsEntryOf (stored_in es) n e
read_there es n place e s here = subst (IsEntryOf (stored_in es) n) (s.there ∙ get_or_default es place s.entry e s.inside ∙ sym here) s.is

-- ---- the graph of what is held

childless-added : (children : Children) (es : List Entry) (n : Name) → NoneNamed n es → finite.get children n ≡ None → finite.get (with_children children es) n ≡ None
childless-added children [] n h none = none
childless-added children (e ∷ es) n h none =
    childless-added (finite.insert children e.name e.kids) es n h.1
    (children_cases children e.name e.kids n (λ o. o ≡ None) (λ same. absurd (h.0 (sym same))) none)

-- a name that has no body has no children
pub childless : (es : List Entry) (n : Name) → body_of (bodies_in es) n ≡ None → children_in (stored_in es) n ≡ None
childless es n none = childless-added finite.empty es n (none_named finite.empty es n none) (finite.get-empty name_cmp n)

found_entry : (es : List Entry) (n : Name) → AllByRecursion HasItsChildren es → AreNew finite.empty es → (body_of (bodies_in es) n ≡ None → ⊥) → (e : Entry) × IsEntryOf (stored_in es) n e
found_entry es n good new held = by_found (finds es good new n).0 (finds es good new n).1
  where
    by_found : (o : Option ℕ) → IsFound es n o → (e : Entry) × IsEntryOf (stored_in es) n e
    by_found None none = absurd (held none)
    by_found (Some place) s = (s.entry, s.is)

pub graph_is : (es : List Entry) → AllByRecursion HasItsChildren es → AreNew finite.empty es → IsGraphOf (bodies_in es) (children_in (stored_in es))
graph_is es good new =
    record {
      held = λ n kids is.
          let found = found_entry es n good new (λ none. let c = childless es n none in let f : Some kids ≡ None = sym is ∙ c in absurd (cc)) in
          let e = found.0 in
          let entry = found.1 in
          let kids_good : AreChildren n.kind e.body e.kids = subst (λ (m : Name). AreChildren m.kind e.body e.kids) entry.name entry.good.kids in
          (e.body, entry.held, subst (AreChildren n.kind e.body) (same_kids e.kids kids (sym entry.kids ∙ is)) kids_good);
      missing = λ n none.
          elim (body_of (bodies_in es) n) as (λ o. body_of (bodies_in es) n ≡ o → body_of (bodies_in es) n ≡ None) [
            | None ↦ λ is. is
            | Some body ↦ λ is.
                let found = found_entry es n good new (λ nothing. let f : Some body ≡ None = sym is ∙ nothing in absurd (cc)) in
                let kids = found.1.kids in absurd (let f : Some found.0.kids ≡ None = sym kids ∙ none in cc)
          ] refl;
    }
  where
    same_kids : (a b : List Name) → Some a ≡ Some b → a ≡ b
    same_kids a b e = cc

-- bodies of entries that are made of bytes are
pub bytes_in : (es : List Entry) → AllByRecursion (λ e. AllByRecursion IsByte e.body) es → AreAllOfBytes (bodies_in es)
bytes_in es bytes = added-all (λ n body. AllByRecursion IsByte body) finite.empty es (λ n body is. absurd (let never : None ≡ Some body = sym (none-empty n) ∙ is in cc)) bytes

-- ---- how many there are

size-added : (bodies : Bodies) (es : List Entry) → AreNew bodies es → finite.len (added bodies es) ≡ finite.len bodies + length es
size-added bodies [] h = omega arith
size-added bodies (e ∷ es) h =
    let more = size-added (finite.insert bodies e.name e.body) es h.1 in
    let one : finite.len (finite.insert bodies e.name e.body) ≡ finite.len bodies + 1 =
    finite.len-insert name_cmp_total bodies e.name e.body ∙ ap (λ (o : Option (List ℕ)). cond (is_some o) (finite.len bodies) (finite.len bodies + 1)) h.0 in
    omega (arith, more, one)

pub size : (es : List Entry) → AreNew finite.empty es → finite.len (bodies_in es) ≡ length es
size es new = let empty = finite.len-empty name_cmp (List ℕ) in let more = size-added finite.empty es new in omega (arith, empty, more)
