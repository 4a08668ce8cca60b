-- What slots and the map say of names, with one entry more or less.
use Rattle.std.proofs.Common.{◌≡◌, ◌≢◌, ◌⊎◌, inl, inr, ℕ, zero, suc, ◌+◌, ◌%◌, ◌<◌, Bool, true, false, cond, Option, Some, None, List, [], ◌∷◌, ◌++◌, length, take, get_or, refl, sym, ap, ◌∙◌, subst, arith}
use Rattle.std.specs.Prelude.{is_some}
use Rattle.std.specs.List.{AllByRecursion}
use Rattle.std.specs.FinMap as finite
use Rattle.std.proofs.Math.Seq.{get_or-append_seam}
use Rattle.std.proofs.lemmas.List.{get_or_append_left, length-append, length-take-le}
use Rattle.swh_base.specs.declared.name.Name.{Name}
use Rattle.swh_base.specs.declared.entry.Entry.{Entry}
use Rattle.swh_base.specs.Name.{name_key}
use Rattle.swh_model.specs.Archive.{body_of}
use Rattle.swh_model.specs.Step.{HasItsChildren, AreNew}
use Rattle.swh_model.proofs.Entries.{all-append, none-empty, new-push}
use Rattle.swh_model.proofs.PlainLists.{take-more}
use Rattle.swh_store.specs.declared.places.Places.{Places}
use Rattle.swh_store.specs.Entries.{bodies_in, IsNamed, IsFound}
use Rattle.swh_store.specs.Places.{HasBytes, number_of, slot_of, mark_at, mark_behind, other_at, NoneLeads, AreTaken, IsNowhere, IsLedFirst, IsPlaced, IsPut, MarksStay, StaysPut}
use Rattle.swh_store.proofs.IndexLemmas.{at, same_key, key_itself, apart-by_key, body-other, finds-more, finds-last, finds-fewer, new_front, new-last, named_held, as_named, three_ways}

-- a name is this one, or it is not
pub same_or_apart : (n m : Name) → (n ≡ m) ⊎ (n ≢ m)
same_or_apart n m =
    elim (at (name_key m) (name_key n)) as (λ b. at (name_key m) (name_key n) ≡ b → (n ≡ m) ⊎ (n ≢ m)) [
      | true ↦ λ t. inl (sym (same_key m n t))
      | false ↦ λ f. inr (apart-by_key n m f)
    ] refl

good-push : (es : List Entry) (e : Entry) → AllByRecursion HasItsChildren es → HasItsChildren e → AllByRecursion HasItsChildren (es ++ e ∷ [])
good-push [] e h good = (good, tt)
good-push (x ∷ es) e h good = (h.0, good-push es e h.1 good)

good_front : (es : List Entry) (e : Entry) → AllByRecursion HasItsChildren (es ++ e ∷ []) → AllByRecursion HasItsChildren es
good_front [] e h = tt
good_front (x ∷ es) e h = (h.0, good_front es e h.1)

bytes_front : (es : List Entry) (e : Entry) → AllByRecursion HasBytes (es ++ e ∷ []) → AllByRecursion HasBytes es
bytes_front [] e h = tt
bytes_front (x ∷ es) e h = (h.0, bytes_front es e h.1)

-- ---- an entry that has a name

named-more : (es : List Entry) (e : Entry) (n : Name) (place : ℕ) → IsNamed es n place → IsNamed (es ++ e ∷ []) n place
named-more es e n place is = (
  let len = length-append es (e ∷ []) in let less = is.0 in omega (arith, len, less),
  λ d. ap (λ (x : Entry). x.name) (get_or_append_left es (e ∷ []) d place is.0) ∙ is.1 d,
)

named-last : (es : List Entry) (e : Entry) → IsNamed (es ++ e ∷ []) e.name (length es)
named-last es e = (
  let len = length-append es (e ∷ []) in omega (arith, len),
  λ d. ap (λ (x : Entry). x.name) (get_or-append_seam es e [] d),
)

named-fewer : (es : List Entry) (e : Entry) (n : Name) (place : ℕ) → n ≢ e.name → IsNamed (es ++ e ∷ []) n place → IsNamed es n place
named-fewer es e n place apart is = (less, λ d. ap (λ (x : Entry). x.name) (sym (get_or_append_left es (e ∷ []) d place less)) ∙ is.1 d)
  where
    not_last : place ≡ length es → ⊥
    not_last same =
        apart (sym (is.1 e) ∙ ap (λ (k : ℕ). (get_or (es ++ e ∷ []) k e).name) same ∙ ap (λ (x : Entry). x.name) (get_or-append_seam es e [] e))

    less : place < length es
    less = let len = length-append es (e ∷ []) in let inside = is.0 in omega (arith, len, inside, not_last)

-- ---- slots that lead where they led

pub slot-same : (old new : List ℕ) (n : Name) → length new ≡ length old → slot_of new n ≡ slot_of old n
slot-same [] [] n many = refl
slot-same [] (mark ∷ new) n many = absurd (omega (arith, many))
slot-same (mark ∷ old) [] n many = absurd (omega (arith, many))
slot-same (mark ∷ old) (other ∷ new) n many = ap (λ (count : ℕ). number_of n % count) many

pub behind-same : (old new : List ℕ) (n : Name) (step : ℕ) → length new ≡ length old → mark_behind new n step ≡ mark_at new (slot_of old n + step)
behind-same old new n step many = ap (λ (slot : ℕ). mark_at new (slot + step)) (slot-same old new n many)

mark-stays : (old new : List ℕ) (n : Name) (step place : ℕ) → MarksStay old new → mark_behind old n step ≡ suc place → mark_behind new n step ≡ suc place
mark-stays old new n step place stay led = behind-same old new n step stay.many ∙ stay.each (slot_of old n + step) place led

stays_free : (old new : List ℕ) (n : Name) (step : ℕ) → MarksStay old new → mark_behind new n step ≡ 0 → mark_behind old n step ≡ 0
stays_free old new n step stay free = by_mark (mark_behind old n step) refl
  where
    by_mark : (mark : ℕ) → mark_behind old n step ≡ mark → mark_behind old n step ≡ 0
    by_mark zero is = is
    by_mark (suc place) is = absurd (let led = mark-stays old new n step place stay is in let never : 0 ≡ suc place = sym free ∙ led in cc)

pub stay_twice : (a b c : List ℕ) → MarksStay a b → MarksStay b c → MarksStay a c
stay_twice a b c first second = record { many = second.many ∙ first.many; each = λ slot place led. second.each slot place (first.each slot place led) }

-- slots that were taken are taken still
pub taken-stay : (old new : List ℕ) (n : Name) (count : ℕ) → MarksStay old new → AreTaken old n count → AreTaken new n count
taken-stay old new n count stay taken step less free = taken step less (stays_free old new n step stay free)

pub taken-next : (slots : List ℕ) (n : Name) (count : ℕ) → AreTaken slots n count → (mark_behind slots n count ≡ 0 → ⊥) → AreTaken slots n (count + 1)
taken-next slots n count taken last step less free = by_order (three_ways step count)
  where
    by_order : (step < count) ⊎ ((count < step) ⊎ (step ≡ count)) → ⊥
    by_order (inl before) = taken step before free
    by_order (inr (inl behind)) = omega (arith, less, behind)
    by_order (inr (inr same)) = last (ap (mark_behind slots n) (sym same) ∙ free)

pub none-next : (slots : List ℕ) (es : List Entry) (n : Name) (count : ℕ) → NoneLeads slots es n count → ((place : ℕ) → mark_behind slots n count ≡ suc place → IsNamed es n place → ⊥) → NoneLeads slots es n (count + 1)
none-next slots es n count none last step less place led named = by_order (three_ways step count)
  where
    by_order : (step < count) ⊎ ((count < step) ⊎ (step ≡ count)) → ⊥
    by_order (inl before) = none step before place led named
    by_order (inr (inl behind)) = omega (arith, less, behind)
    by_order (inr (inr same)) = last place (ap (mark_behind slots n) (sym same) ∙ led) named

-- where no later slots lead, no earlier ones did
none-before : (old new : List ℕ) (es : List Entry) (n : Name) (count : ℕ) → MarksStay old new → NoneLeads new es n count → NoneLeads old es n count
none-before old new es n count stay none step less place led named = none step less place (mark-stays old new n step place stay led) named

none-fewer : (slots : List ℕ) (es : List Entry) (e : Entry) (n : Name) (count : ℕ) → NoneLeads slots (es ++ e ∷ []) n count → NoneLeads slots es n count
none-fewer slots es e n count none step less place led named = none step less place led (named-more es e n place named)

none-more : (slots : List ℕ) (es : List Entry) (e : Entry) (n : Name) (count : ℕ) → n ≢ e.name → NoneLeads slots es n count → NoneLeads slots (es ++ e ∷ []) n count
none-more slots es e n count other none step less place led named = none step less place led (named-fewer es e n place other named)

nowhere-before : (old new : List ℕ) (es : List Entry) (n : Name) → MarksStay old new → IsNowhere new es n → IsNowhere old es n
nowhere-before old new es n stay is = (is.0, is.1, stays_free old new n is.0 stay is.2, none-before old new es n is.0 stay is.3)

-- ---- places

pub placed-none : (places : Places) → ((n : Name) → other_at places n ≡ None) → IsPlaced places []
placed-none places none =
    record {
      good = tt;
      of_bytes = tt;
      new = tt;
      free = λ n _. none-empty n;
      rest = λ n _. subst (IsFound [] n) (sym (none n)) (none-empty n);
    }

pub placed-stay : (old new : Places) (es : List Entry) → StaysPut old new → IsPlaced old es → IsPlaced new es
placed-stay old new es stay placed =
    record {
      good = placed.good;
      of_bytes = placed.of_bytes;
      new = placed.new;
      free = λ n is. placed.free n (nowhere-before old.slots.items new.slots.items es n stay.marks is);
      rest = λ n not. subst (IsFound es n) (sym (stay.others n)) (placed.rest n (none-before old.slots.items new.slots.items es n 4 stay.marks not));
    }

-- one entry more, whose name was led to its place
pub placed-push : (old new : Places) (es : List Entry) (e : Entry) → IsPlaced old es → IsPut old new e.name (length es) → HasItsChildren e → HasBytes e → body_of (bodies_in es) e.name ≡ None → IsPlaced new (es ++ e ∷ [])
placed-push old new es e placed put good bytes absent =
    record {
      good = good-push es e placed.good good;
      of_bytes = all-append HasBytes es (e ∷ []) placed.of_bytes (bytes, tt);
      new = new-push finite.empty es e placed.new absent;
      free = λ n is. body-other es e n (apart n is) ∙ placed.free n (nowhere-before old.slots.items new.slots.items es n put.marks (is.0, is.1, is.2, none-fewer new.slots.items es e n is.0 is.3));
      rest = λ n not. by_name n not (same_or_apart n e.name);
    }
  where
    all : List Entry
    all = es ++ e ∷ []

    -- the name's own slots are taken up to the one that leads to its entry, or all of them
    not_nowhere : IsNowhere new.slots.items all e.name → IsLedFirst new.slots.items e.name (length es) ⊎ (AreTaken new.slots.items e.name 4 × (other_at new e.name ≡ Some (length es))) → ⊥
    not_nowhere is (inr full) = full.0 is.0 is.1 is.2
    not_nowhere is (inl led) = by_order (three_ways is.0 led.0)
      where
        by_order : (is.0 < led.0) ⊎ ((led.0 < is.0) ⊎ (is.0 ≡ led.0)) → ⊥
        by_order (inl before) = led.3 is.0 before is.2
        by_order (inr (inl behind)) = is.3 led.0 behind (length es) led.2 (named-last es e)
        by_order (inr (inr same)) = let there = led.2 in let free = ap (mark_behind new.slots.items e.name) (sym same) ∙ is.2 in let never : 0 ≡ suc (length es) = sym free ∙ there in cc

    apart : (n : Name) → IsNowhere new.slots.items all n → n ≢ e.name
    apart n is same = not_nowhere (subst (IsNowhere new.slots.items all) same is) put.leads

    here : NoneLeads new.slots.items all e.name 4 → IsLedFirst new.slots.items e.name (length es) ⊎ (AreTaken new.slots.items e.name 4 × (other_at new e.name ≡ Some (length es))) → IsFound all e.name (other_at new e.name)
    here none (inl led) = absurd (none led.0 led.1 (length es) led.2 (named-last es e))
    here none (inr full) = subst (IsFound all e.name) (sym full.1) (finds-last es e e.name refl good)

    by_name : (n : Name) → NoneLeads new.slots.items all n 4 → (n ≡ e.name) ⊎ (n ≢ e.name) → IsFound all n (other_at new n)
    by_name n none (inl same) = subst (λ (m : Name). IsFound all m (other_at new m)) (sym same) (here (subst (λ (m : Name). NoneLeads new.slots.items all m 4) same none) put.leads)
    by_name n none (inr other) =
        subst (IsFound all n) (sym (put.others n other))
        (finds-more es e n (other_at old n) other (placed.rest n (none-before old.slots.items new.slots.items es n 4 put.marks (none-fewer new.slots.items es e n 4 none))))

-- one entry less, which the map forgot
pub placed-pop : (old new : Places) (es : List Entry) (e : Entry) → IsPlaced old (es ++ e ∷ []) → new.slots.items ≡ old.slots.items
    → ((n : Name) → other_at new n ≡ cond (at (name_key e.name) (name_key n)) None (other_at old n)) → IsPlaced new es
placed-pop old new es e placed same_slots forgot =
    record {
      good = good_front es e placed.good;
      of_bytes = bytes_front es e placed.of_bytes;
      new = new_front finite.empty es (e ∷ []) placed.new;
      free = λ n is. by_name n (body_of (bodies_in es) n ≡ None) (λ same. absent n same)
          (λ other. sym (body-other es e n other) ∙ placed.free n (nowhere-more n other (subst (λ (slots : List ℕ). IsNowhere slots es n) same_slots is)));
      rest = λ n none. subst (IsFound es n) (sym (forgot n))
          (elim (at (name_key e.name) (name_key n)) as (λ b. at (name_key e.name) (name_key n) ≡ b → IsFound es n (cond b None (other_at old n))) [
            | true ↦ λ t. absent n (sym (same_key e.name n t))
            | false ↦ λ f.
                finds-fewer es e n (other_at old n) (apart-by_key n e.name f)
                (placed.rest n (none-more old.slots.items es e n 4 (apart-by_key n e.name f) (subst (λ (slots : List ℕ). NoneLeads slots es n 4) same_slots none)))
          ] refl);
    }
  where
    by_name : (n : Name) (P : Type 0) → (n ≡ e.name → P) → (n ≢ e.name → P) → P
    by_name n P here there = elim (same_or_apart n e.name) as (λ _. P) [ inl same ↦ here same | inr other ↦ there other ]

    absent : (n : Name) → n ≡ e.name → body_of (bodies_in es) n ≡ None
    absent n same = subst (λ (m : Name). body_of (bodies_in es) m ≡ None) (sym same) (new-last finite.empty es e placed.new)

    nowhere-more : (n : Name) → n ≢ e.name → IsNowhere old.slots.items es n → IsNowhere old.slots.items (es ++ e ∷ []) n
    nowhere-more n other is = (is.0, is.1, is.2, none-more old.slots.items es e n is.0 other is.3)

-- ---- a key that is led somewhere

pub put-here : (key : List ℕ) (n : Name) (o p : Option ℕ) → key ≡ name_key n → cond (at key (name_key n)) o p ≡ o
put-here key n o p is = ap (λ (k : List ℕ). cond (at k (name_key n)) o p) is ∙ ap (λ (b : Bool). cond b o p) (key_itself n)

pub put-other : (key : List ℕ) (n m : Name) (o p : Option ℕ) → key ≡ name_key n → m ≢ n → cond (at key (name_key m)) o p ≡ p
put-other key n m o p is apart =
    ap (λ (k : List ℕ). cond (at k (name_key m)) o p) is
    ∙ elim (at (name_key n) (name_key m)) as (λ b. at (name_key n) (name_key m) ≡ b → cond b o p ≡ p) [
      | true ↦ λ t. absurd (apart (sym (same_key n m t)))
      | false ↦ λ _. refl
    ] refl

-- ---- entries that are taken up one after another

good_at : (es : List Entry) (place : ℕ) (e : Entry) → place < length es → e ≡ get_or es place e → AllByRecursion HasItsChildren es → HasItsChildren e
good_at [] place e less is good = absurd (omega (arith, less))
good_at (x ∷ es) zero e less is good = subst HasItsChildren (sym is) good.0
good_at (x ∷ es) (suc place) e less is good = good_at es place e (omega (arith, less)) is good.1

-- an entry whose name was found is not new
pub found_twice : (es : List Entry) (place : ℕ) (e : Entry) (o : Option ℕ) → place < length es → e ≡ get_or es place e → is_some o ≡ true → IsFound (take place es) e.name o → AreNew finite.empty (take (place + 1) es) → ⊥
found_twice es place e None less is some found newer = let never : false ≡ true = some in cc
found_twice es place e (Some k) less is some found newer =
    let all : AreNew finite.empty (take place es ++ e ∷ []) = subst (AreNew finite.empty) (take-more es place e less is) newer in
    named_held (take place es) e.name k (new_front finite.empty (take place es) (e ∷ []) all) (as_named (take place es) e.name k found) (new-last finite.empty (take place es) e all)

pub placed-next : (old new : Places) (es : List Entry) (place : ℕ) (e : Entry) (o : Option ℕ) → place < length es → e ≡ get_or es place e → AllByRecursion HasItsChildren es → HasBytes e → is_some o ≡ false → IsFound (take place es) e.name o
    → IsPlaced old (take place es) → IsPut old new e.name place → IsPlaced new (take (place + 1) es)
placed-next old new es place e (Some k) less is good bytes none found placed put = absurd (let never : true ≡ false = none in cc)
placed-next old new es place e None less is good bytes none found placed put =
    subst (IsPlaced new) (sym (take-more es place e less is))
    (placed-push old new (take place es) e placed (subst (IsPut old new e.name) (sym (length-take-le place es (omega (arith, less)))) put) (good_at es place e less is good) bytes found)
