-- What was made so far, found by the places of the digests of its ids.
use Rattle.std.proofs.Common.{◌≡◌, ◌⊎◌, inl, inr, ℕ, ◌<◌, Bool, true, false, cond, IsTrue, Contains, List, [], ◌∷◌, ◌++◌, length, Option, Some, None, slice_get, get_or, refl, sym, ap, ◌∙◌, subst, arith, length-append}
use Rattle.std.specs.FinMap.{nat_cmp-IsAntisymmetric}
use Rattle.std.specs.Global.{Vec}
use Rattle.std.specs.Ordering.{nat_cmp, is_eq}
use Rattle.std.specs.declared.cmp.Ordering.TheVariants.{Equal}
use Rattle.std.specs.Map.{lookup}
use Rattle.std.specs.BTreeMap.{is_at}
use Rattle.std.proofs.lemmas.Cmp.{nat_cmp_total}
use Rattle.std.proofs.lemmas.Option.{slice_get_within, get_or_from_slice_get, slice_get-get_or}
use Rattle.std.proofs.lemmas.List.{get_or_default, get_or_append_left}
use Rattle.std.proofs.Math.Seq.{get_or-append_seam}
use Rattle.std.proofs.lemmas.List.Elements.{Contains-push, Contains-append_left, Contains-append_cases}
use Rattle.swh_base.specs.declared.kind.Kind.{Kind}
use Rattle.swh_base.proofs.Elementary.{equal_order, own_reverse}
use Rattle.swh_model.specs.Meaning.{Made}
use Rattle.swh_dedup.specs.declared.places.Places.{Places}
use Rattle.swh_dedup.specs.Seen.{digest_of, places_in, first_and, led_and, first_at, further_at, mapped_at, slot_at, places_at, IsFound, IsIndexed, SlotsStay, MappedStay, GetsMapped, GetsPlace, GetsOther, SameMapped, PlacesStay, LeadsTo, LedTo, IsMapped, IsNoted, IsNowhere, StandsAtNone}
use Rattle.swh_dedup.specs.declared.seen.Novelty.{Novelty}
use Rattle.swh_dedup.specs.declared.seen.Novelty.TheVariants.{New, Known}
use Rattle.swh_dedup.proofs.Elements.{first_or_later, first_is, later_is, none_is}
use Rattle.swh_dedup.proofs.Slotted.{and_cases, and_later}
use Rattle.swh_dedup.specs.Making.{object_of}

same_self : (n : ℕ) → nat_cmp n n ≡ Equal
same_self n = own_reverse (nat_cmp n n) (nat_cmp_total.antisymm n n)

same_number : (a b : ℕ) → is_eq (nat_cmp a b) ≡ true → a ≡ b
same_number a b e = nat_cmp-IsAntisymmetric a b (equal_order (nat_cmp a b) e)

pub contains_at : {X : Type 0} (xs : List X) (k : ℕ) (x : X) → slice_get xs k ≡ Some x → Contains xs x
contains_at xs k x e = (k, slice_get_within xs k x e, get_or_from_slice_get xs k x x e)

-- an element of a list of numbers, by its index
pub number_at : (xs : List ℕ) (x : ℕ) (h : Contains xs x) → get_or xs h.0 0 ≡ x
number_at xs x h = get_or_default xs h.0 0 x h.1 ∙ h.2

pub not_true : (b : Bool) → IsTrue b → b ≡ false → ⊥
not_true b t f = cc

-- one place more
pub gets_other : (digest : ℕ) (place : ℕ) (old new : List (ℕ × Vec ℕ)) (v : Vec ℕ) → ((q : ℕ) → lookup (is_at (nat_cmp q)) new ≡ cond (is_at (nat_cmp digest) q) (Some v) (lookup (is_at (nat_cmp q)) old)) → v.items ≡ further_at old digest ++ place ∷ [] → GetsOther digest place old new
gets_other digest place old new v u e = record { there = subst (λ (t : List ℕ). Contains t place) (sym (here ∙ e)) (Contains-push (further_at old digest) place); stay = λ other k h. by_test other k h (is_at (nat_cmp digest) other) refl }
  where
    here : further_at new digest ≡ v.items
    here = ap places_in (u digest ∙ ap (λ (b : Bool). cond b (Some v) (lookup (is_at (nat_cmp digest)) old)) (ap is_eq (same_self digest)))

    by_test : (other : ℕ) (k : ℕ) → Contains (further_at old other) k → (b : Bool) → is_at (nat_cmp digest) other ≡ b → Contains (further_at new other) k
    by_test other k h true t =
        let same : digest ≡ other = same_number digest other t in
        let there : Contains (further_at new digest) k = subst (λ (t : List ℕ). Contains t k) (sym (here ∙ e)) (Contains-append_left (further_at old digest) (place ∷ []) k (subst (λ (o : ℕ). Contains (further_at old o) k) (sym same) h)) in
        subst (λ (o : ℕ). Contains (further_at new o) k) same there
    by_test other k h false t = subst (λ (t : List ℕ). Contains t k) (sym (ap places_in (u other ∙ ap (λ (b : Bool). cond b (Some v) (lookup (is_at (nat_cmp other)) old)) t))) h

-- What an ordered map has once this place was put in at an digest.
abbrev pub IsPut : ℕ → ℕ → List (ℕ × ℕ) → List (ℕ × ℕ) → Type 0
IsPut digest place old new = (other : ℕ) → first_at new other ≡ cond (is_at (nat_cmp digest) other) (Some place) (first_at old other)

at_self : (digest : ℕ) → is_at (nat_cmp digest) digest ≡ true
at_self digest = ap is_eq (same_self digest)

-- A digest that led nowhere leads to the place that was put in.
pub put_new : (digest : ℕ) (place : ℕ) (old new : List (ℕ × ℕ)) → first_at old digest ≡ None → IsPut digest place old new → LeadsTo digest place old new
put_new digest place old new none put = record { none = none; there = here; stay = λ other k e. by_test other k e (is_at (nat_cmp digest) other) refl }
  where
    here : first_at new digest ≡ Some place
    here = put digest ∙ ap (λ (b : Bool). cond b (Some place) (first_at old digest)) (at_self digest)

    by_test : (other : ℕ) (k : ℕ) → first_at old other ≡ Some k → (b : Bool) → is_at (nat_cmp digest) other ≡ b → first_at new other ≡ Some k
    by_test other k e true t =
        let same : digest ≡ other = same_number digest other t in
        let none_here : first_at old other ≡ None = subst (λ (o : ℕ). first_at old o ≡ None) same none in
        absurd (cc)
    by_test other k e false t = put other ∙ ap (λ (b : Bool). cond b (Some place) (first_at old other)) t ∙ e

-- A digest at which its own place was put in again leads where it led, and so do the others.
pub put_back : (digest : ℕ) (place known : ℕ) (old between new : List (ℕ × ℕ)) → first_at old digest ≡ Some known → IsPut digest place old between → IsPut digest known between new → LedTo digest old new known
put_back digest place known old between new there put back = record { there = there; same = λ other. by_test other (is_at (nat_cmp digest) other) refl }
  where
    by_test : (other : ℕ) (b : Bool) → is_at (nat_cmp digest) other ≡ b → first_at new other ≡ first_at old other
    by_test other true t =
        let same : digest ≡ other = same_number digest other t in
        back other ∙ ap (λ (b : Bool). cond b (Some known) (first_at between other)) t ∙ sym (subst (λ (o : ℕ). first_at old o ≡ Some known) same there)
    by_test other false t =
        back other ∙ ap (λ (b : Bool). cond b (Some known) (first_at between other)) t ∙ put other ∙ ap (λ (b : Bool). cond b (Some place) (first_at old other)) t

same_places : (old new : Places) (digest : ℕ) → first_at new.first.entries digest ≡ first_at old.first.entries digest → new.further.entries ≡ old.further.entries → mapped_at new digest ≡ mapped_at old digest
same_places old new digest e same = ap (λ (o : Option ℕ). first_and o (further_at new.further.entries digest)) e ∙ ap (λ (f : List (ℕ × Vec ℕ)). first_and (first_at old.first.entries digest) (further_at f digest)) same

-- A digest that led nowhere.
pub led_new : (digest : ℕ) (place : ℕ) (old new : Places) → LeadsTo digest place old.first.entries new.first.entries → new.further.entries ≡ old.further.entries → GetsMapped digest place old new
led_new digest place old new l same = record { there = subst (λ (o : Option ℕ). Contains (first_and o (further_at new.further.entries digest)) place) (sym l.there) (first_is place (further_at new.further.entries digest)); stay = λ other k c. by_first other k (first_at old.first.entries other) refl c }
  where
    by_first : (other : ℕ) (k : ℕ) (o : Option ℕ) → first_at old.first.entries other ≡ o → Contains (mapped_at old other) k → Contains (mapped_at new other) k
    by_first other k None e c = absurd (none_is k (subst (λ (o : Option ℕ). Contains (first_and o (further_at old.further.entries other)) k) e c))
    by_first other k (Some p) e c =
        let here : mapped_at new other ≡ mapped_at old other = same_places old new other (l.stay other p e ∙ sym e) same in
        subst (λ (ps : List ℕ). Contains ps k) (sym here) c

-- A digest that led nowhere had no place.
pub led_none : (digest : ℕ) (places : Places) (k : ℕ) → first_at places.first.entries digest ≡ None → Contains (mapped_at places digest) k → ⊥
led_none digest places k e c = none_is k (subst (λ (o : Option ℕ). Contains (first_and o (further_at places.further.entries digest)) k) e c)

-- A digest that leads where it led.
pub led_same : (digest : ℕ) (place : ℕ) (old new : Places) → LedTo digest old.first.entries new.first.entries place → new.further.entries ≡ old.further.entries → SameMapped old new
led_same digest place old new l same other = same_places old new other (l.same other) same

-- One more of a digest that led somewhere.
pub led_other : (digest : ℕ) (first place : ℕ) (old new : Places) → LedTo digest old.first.entries new.first.entries first → GetsOther digest place old.further.entries new.further.entries → GetsMapped digest place old new
led_other digest first place old new l g = record { there = subst (λ (o : Option ℕ). Contains (first_and o (further_at new.further.entries digest)) place) (sym (l.same digest ∙ l.there)) (later_is first (further_at new.further.entries digest) place g.there); stay = λ other k c. by_first other k (first_at old.first.entries other) refl c }
  where
    by_first : (other : ℕ) (k : ℕ) (o : Option ℕ) → first_at old.first.entries other ≡ o → Contains (mapped_at old other) k → Contains (mapped_at new other) k
    by_first other k None e c = absurd (none_is k (subst (λ (o : Option ℕ). Contains (first_and o (further_at old.further.entries other)) k) e c))
    by_first other k (Some p) e c =
        let c2 : Contains (p ∷ further_at old.further.entries other) k = subst (λ (o : Option ℕ). Contains (first_and o (further_at old.further.entries other)) k) e c in
        let d : Contains (p ∷ further_at new.further.entries other) k = by_place p other k (first_or_later p (further_at old.further.entries other) k c2) in
        subst (λ (o : Option ℕ). Contains (first_and o (further_at new.further.entries other)) k) (sym (l.same other ∙ e)) d
      where
        by_place : (p : ℕ) (other : ℕ) (k : ℕ) → (p ≡ k) ⊎ Contains (further_at old.further.entries other) k → Contains (p ∷ further_at new.further.entries other) k
        by_place p other k (inl e) = subst (λ (t : ℕ). Contains (p ∷ further_at new.further.entries other) t) e (first_is p (further_at new.further.entries other))
        by_place p other k (inr c) = later_is p (further_at new.further.entries other) k (g.stay other k c)

-- At none of the places of a digest that led somewhere.
pub led_absent : (digest : ℕ) (first : ℕ) (old new : Places) (P : ℕ → Type 0) → LedTo digest old.first.entries new.first.entries first → (P first → ⊥) → ((k : ℕ) → Contains (further_at old.further.entries digest) k → P k → ⊥) → (k : ℕ) → Contains (mapped_at old digest) k → P k → ⊥
led_absent digest first old new P l here others k c p =
    by_place (first_or_later first (further_at old.further.entries digest) k (subst (λ (o : Option ℕ). Contains (first_and o (further_at old.further.entries digest)) k) l.there c))
  where
    by_place : (first ≡ k) ⊎ Contains (further_at old.further.entries digest) k → ⊥
    by_place (inl e) = here (subst P (sym e) p)
    by_place (inr d) = others k d p

get_left : (xs : List Made) (m n : Made) (k : ℕ) → slice_get xs k ≡ Some m → slice_get (xs ++ n ∷ []) k ≡ Some m
get_left xs m n k e =
    let l = slice_get_within xs k m e in
    slice_get-get_or (xs ++ n ∷ []) k m (omega (arith, length-append xs (n ∷ []))) ∙ ap Some (get_or_append_left xs (n ∷ []) m k l ∙ get_or_from_slice_get xs k m m e)

get_last : (xs : List Made) (n : Made) → slice_get (xs ++ n ∷ []) (length xs) ≡ Some n
get_last xs n = slice_get-get_or (xs ++ n ∷ []) (length xs) n (omega (arith, length-append xs (n ∷ []))) ∙ ap Some (get_or-append_seam xs n [] n)

one : (n m : Made) → Contains (n ∷ []) m → n ≡ m
one n m (k, l, e) = ap (λ (i : ℕ). get_or (n ∷ []) i m) (zero_is k l) ∙ e
  where
    zero_is : (k : ℕ) → k < 1 → 0 ≡ k
    zero_is k l = omega arith

pub places_stay : (old new : Places) → PlacesStay old new → (digest k : ℕ) → Contains (places_at old digest) k → Contains (places_at new digest) k
places_stay old new stay digest k c = by_place (and_cases (slot_at old.slots.items digest) (mapped_at old digest) k c)
  where
    by_place : (slot_at old.slots.items digest ≡ Some k) ⊎ Contains (mapped_at old digest) k → Contains (places_at new digest) k
    by_place (inl e) = subst (λ (o : Option ℕ). Contains (led_and o (mapped_at new digest)) k) (sym (stay.slots digest k e)) (first_is k (mapped_at new digest))
    by_place (inr d) = and_later (slot_at new.slots.items digest) (mapped_at new digest) k (stay.mapped digest k d)

pub not_none : (o : Option ℕ) (p : ℕ) → o ≡ Some p → o ≡ None → ⊥
not_none o p e f = absurd (cc)

-- A slot that was taken stays so.
pub taken_stays : (old new : List ℕ) → SlotsStay old new → (digest : ℕ) → (slot_at old digest ≡ None → ⊥) → slot_at new digest ≡ None → ⊥
taken_stays old new stay digest taken free = by_slot (slot_at old digest) refl
  where
    by_slot : (o : Option ℕ) → slot_at old digest ≡ o → ⊥
    by_slot None e = taken e
    by_slot (Some p) e = not_none (slot_at new digest) p (stay digest p e) free

found_stays : (id_of : Kind → List ℕ → List ℕ) (made more : List Made) (old new : Places) (m : Made) → PlacesStay old new → ((k : ℕ) → slice_get made k ≡ Some m → slice_get more k ≡ Some m) → IsFound id_of made old m → IsFound id_of more new m
found_stays id_of made more old new m stay on f =
    let digest = digest_of (id_of m.kind m.body) in
    record {
      place = f.place;
      among = places_stay old new stay digest f.place f.among;
      taken = taken_stays old.slots.items new.slots.items stay.slots digest f.taken;
      there = on f.place f.there;
    }

pub indexed_more : (id_of : Kind → List ℕ → List ℕ) (made : List Made) (old new : Places) (n : Made) → GetsPlace (digest_of (id_of n.kind n.body)) (length made) old new → IsIndexed id_of made old → IsIndexed id_of (made ++ n ∷ []) new
indexed_more id_of made old new n g h m c = by_place (Contains-append_cases made (n ∷ []) m c)
  where
    by_place : Contains made m ⊎ Contains (n ∷ []) m → IsFound id_of (made ++ n ∷ []) new m
    by_place (inl c) = found_stays id_of made (made ++ n ∷ []) old new m g.stay (get_left made m n) (h m c)
    by_place (inr c) = subst (λ (k : Made). IsFound id_of (made ++ n ∷ []) new k) (one n m c) (record { place = length made; among = g.there; taken = g.taken; there = get_last made n })

pub absent : (id_of : Kind → List ℕ → List ℕ) (made : List Made) (places : Places) (m : Made) → IsIndexed id_of made places → IsNowhere made (digest_of (id_of m.kind m.body)) m places → Contains made m → ⊥
absent id_of made places m h none c =
    let f = h m c in
    none f.taken f.place f.among f.there

pub indexed_same : (id_of : Kind → List ℕ → List ℕ) (made : List Made) (old new : Places) → PlacesStay old new → IsIndexed id_of made old → IsIndexed id_of made new
indexed_same id_of made old new stay h m c = found_stays id_of made made old new m stay (λ k e. e) (h m c)

pub same_object : (k j : Kind) (b d : List ℕ) → k ≡ j → b ≡ d → object_of k b ≡ object_of j d
same_object k j b d e f = ap (λ (t : Kind). object_of t b) e ∙ ap (object_of j) f

pub noted_known : (made : List Made) (digest : ℕ) (place : ℕ) (m : Made) (old new : Places) (told : Novelty) → told ≡ Known → IsNoted made digest place m old new told → PlacesStay old new × Contains made m
noted_known made digest place m old new told e noted = subst (IsNoted made digest place m old new) e noted

pub noted_new : (made : List Made) (digest : ℕ) (place : ℕ) (m : Made) (old new : Places) (told : Novelty) → told ≡ New → IsNoted made digest place m old new told
    → GetsPlace digest place old new × IsNowhere made digest m old
noted_new made digest place m old new told e noted = subst (IsNoted made digest place m old new) e noted

one_led : (o : Option ℕ) (j k : ℕ) → o ≡ Some j → o ≡ Some k → j ≡ k
one_led o j k e f = cc

-- Nowhere, where it stands neither where the slot leads nor where the maps do.
pub nowhere_then : (made : List Made) (digest known : ℕ) (m : Made) (places : Places) → slot_at places.slots.items digest ≡ Some known → (slice_get made known ≡ Some m → ⊥) → StandsAtNone made (mapped_at places digest) m → IsNowhere made digest m places
nowhere_then made digest known m places led other mapped taken k c e = by_place (and_cases (slot_at places.slots.items digest) (mapped_at places digest) k c)
  where
    by_place : (slot_at places.slots.items digest ≡ Some k) ⊎ Contains (mapped_at places digest) k → ⊥
    by_place (inl l) = other (subst (λ (j : ℕ). slice_get made j ≡ Some m) (one_led _ k known l led) e)
    by_place (inr d) = mapped k d e

mapped_still : (old new : Places) → SameMapped old new → MappedStay old new
mapped_still old new same other k c = subst (λ (ps : List ℕ). Contains ps k) (sym (same other)) c

-- What is noted once the slot of its digest led to a place where it does not stand.
module _ (made : List Made) (digest place known : ℕ) (m : Made) (old new : Places) (slots : Vec ℕ) where
  abbrev pub between : Places
  between = record { slots = slots; first = old.first; further = old.further }

  pub slots_on : SlotsStay old.slots.items slots.items → new.slots.items ≡ slots.items → SlotsStay old.slots.items new.slots.items
  slots_on stay same = subst (SlotsStay old.slots.items) (sym same) stay

  pub same_stays : SlotsStay old.slots.items slots.items → new.slots.items ≡ slots.items → SameMapped between new → PlacesStay old new
  same_stays stay same mapped = record { slots = slots_on stay same; mapped = mapped_still between new mapped }

  pub noted_then : SlotsStay old.slots.items slots.items → slot_at slots.items digest ≡ Some known → (slice_get made known ≡ Some m → ⊥) → new.slots.items ≡ slots.items → (told : Novelty) → IsMapped made digest place m between new told → IsNoted made digest place m old new told
  noted_then stay led other same New noted = (gets, λ taken k c e. nowhere k c e)
    where
      led_now : slot_at new.slots.items digest ≡ Some known
      led_now = ap (λ (s : List ℕ). slot_at s digest) same ∙ led

      gets : GetsPlace digest place old new
      gets = record {
        there = and_later (slot_at new.slots.items digest) (mapped_at new digest) place noted.0.there;
        taken = λ free. not_none (slot_at new.slots.items digest) known led_now free;
        stay = record { slots = slots_on stay same; mapped = noted.0.stay };
      }

      nowhere : (k : ℕ) → Contains (places_at old digest) k → slice_get made k ≡ Some m → ⊥
      nowhere k c e = by_place (and_cases (slot_at old.slots.items digest) (mapped_at old digest) k c)
        where
          by_place : (slot_at old.slots.items digest ≡ Some k) ⊎ Contains (mapped_at old digest) k → ⊥
          by_place (inl l) = other (subst (λ (j : ℕ). slice_get made j ≡ Some m) (one_led _ k known (stay digest k l) led) e)
          by_place (inr d) = noted.1 k d e
  noted_then stay led other same Known noted = (same_stays stay same noted.0, noted.1)
