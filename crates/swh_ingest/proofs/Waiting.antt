-- What waits, and what is in hand.
use Rattle.std.proofs.Common.{◌≡◌, ◌⊎◌, inl, inr, ℕ, ◌+◌, ◌<◌, ◌≤◌, Bool, true, Option, Some, None, List, [], ◌∷◌, ◌++◌, length, Contains, refl, sym, ap, ◌∙◌, subst, arith, append_assoc, length-append}
use Rattle.std.specs.Prelude.{sum_by}
use Rattle.std.specs.List.{AllByRecursion}
use Rattle.std.specs.FinMap as finite
use Rattle.std.proofs.lemmas.List.{append-nil}
use Rattle.std.proofs.lemmas.List.Elements.{Contains-append_left, Contains-append_right}
use Rattle.std.proofs.lemmas.List.Sums.{sum_by-append, sum_by-cons}
use Rattle.swh_base.specs.declared.kind.Kind.{Kind}
use Rattle.swh_base.specs.declared.name.Name.{Name}
use Rattle.swh_base.specs.declared.entry.Entry.{Entry}
use Rattle.swh_base.specs.Limits.{body_limit, objects_limit, bytes_limit}
use Rattle.swh_base.proofs.Elementary.{all_as}
use Rattle.swh_model.specs.Archive.{Bodies, body_of}
use Rattle.swh_model.specs.Limits.{bytes_before_last, IsWithinLimits}
use Rattle.swh_model.specs.Step.{AreNew, HasItsChildrenAndName, added}
use Rattle.swh_model.specs.Grows.{IsWithin}
use Rattle.swh_model.proofs.Maps.{body-put, within-put}
use Rattle.swh_model.proofs.Entries.{none-added, none_named, none-empty, added-append, new-push, all-append}
use Rattle.swh_model.proofs.Batches.{from_entry}
use Rattle.swh_object.specs.Object.{IsObject}
use Rattle.swh_store.specs.Entries.{bodies_in}
use Rattle.swh_store.specs.Adding.{HasOther}
use Rattle.swh_store.specs.declared.adding.Standing.TheVariants.{Other}
use Rattle.swh_ingest.specs.declared.pending.Pending.{Pending}
use Rattle.swh_ingest.specs.declared.sending.Taken.{Taken}
use Rattle.swh_ingest.specs.declared.sending.Taken.TheVariants.{Waits, Collides}
use Rattle.swh_ingest.specs.Owning.{AreAmong, IsBatchAmong, IsBatchAsked}
use Rattle.swh_ingest.specs.Walking.{Adds, StopsNow, StopsAfter}
use Rattle.swh_ingest.specs.declared.stop.Stop.{Stop}
use Rattle.swh_model.specs.declared.event.EventKind.{EventKind}
use Rattle.swh_model.specs.declared.event.Wish.{Wish}
use Rattle.swh_ingest.specs.Knowing.{Protocol, IsLawful}
use Rattle.swh_ingest.specs.Sending.{IsHeldWhole, AllHeld, IsMet, AreSent, BatchHasRoom, IsJoined, JoinsBatch, IsPendingBatch, IsInHand, KeepsInHand, HasRoomNow, IsTakenIn, TakesEntry, AreTakenIn, AreSentAfter, AreSentButABatch}
use Rattle.swh_ingest.proofs.Steps.{adds_then, adds_as, after_then, after_as, asking_as}
use Rattle.swh_ingest.proofs.Batches.{at_element, among_all}

-- lists of entries among others

pub among_further : (xs ys zs : List Entry) → AreAmong xs ys → AreAmong ys zs → AreAmong xs zs
among_further xs ys zs h k = all_as (Contains ys) (Contains xs) (λ e. at_element (Contains xs) ys e h) zs k

pub among_front : (xs ys zs : List Entry) → AreAmong xs zs → AreAmong (xs ++ ys) zs
among_front xs ys zs h = all_as (Contains xs) (Contains (xs ++ ys)) (λ e. Contains-append_left xs ys e) zs h

last_among : (xs : List Entry) (e : Entry) → Contains (xs ++ e ∷ []) e
last_among xs e = Contains-append_right xs (e ∷ []) e (0, omega arith, refl)

pub among_push : (xs ys : List Entry) (e : Entry) → AreAmong xs ys → AreAmong (xs ++ e ∷ []) (ys ++ e ∷ [])
among_push xs ys e h = all-append (Contains (xs ++ e ∷ [])) ys (e ∷ []) (among_front xs (e ∷ []) ys h) (last_among xs e, tt)

pub among_both : (xs ys zs : List Entry) → AreAmong xs ys → AreAmong (xs ++ zs) (ys ++ zs)
among_both xs ys zs h = all-append (Contains (xs ++ zs)) ys zs (among_front xs zs ys h) (all_as (Contains zs) (Contains (xs ++ zs)) (λ e. Contains-append_right xs zs e) zs (among_all zs))

-- those that wait and the next object are among all objects
pub among_next : (all done left next : List Entry) (e : Entry) (waiting : List Entry) → all ≡ done ++ left → left ≡ (e ∷ []) ++ next → AreAmong all waiting → AreAmong all (waiting ++ e ∷ [])
among_next all done left next e waiting cut first h =
    let there : Contains (done ++ left) e = Contains-append_right done left e (subst (λ (t : List Entry). Contains t e) (sym first) (0, omega arith, refl)) in
    all-append (Contains all) waiting (e ∷ []) h (subst (λ (t : List Entry). Contains t e) (sym cut) there, tt)

-- what collides with some of these collides with these
pub met_among : (bodies : Bodies) (xs ys : List Entry) (name : Name) → AreAmong xs ys → IsMet bodies ys name → IsMet bodies xs name
met_among bodies xs ys name h m = record { entry = m.entry; among = at_element (Contains xs) ys m.entry h m.among; named = m.named; other = m.other }

-- limits of one entry more

bytes-more : (e f : Entry) (es : List Entry) → bytes_before_last (e ∷ (es ++ f ∷ [])) ≡ length e.body + bytes_before_last (es ++ f ∷ [])
bytes-more e f [] = refl
bytes-more e f (x ∷ es) = refl

bytes-push : (es : List Entry) (f : Entry) → bytes_before_last (es ++ f ∷ []) ≡ sum_by (λ e. length e.body) es
bytes-push [] f = refl
bytes-push (e ∷ es) f = bytes-more e f es ∙ ap (λ (n : ℕ). length e.body + n) (bytes-push es f) ∙ sym (sum_by-cons (λ (x : Entry). length x.body) e es)

length-push : (es : List Entry) (e : Entry) → length (es ++ e ∷ []) ≡ length es + 1
length-push es e = length-append es (e ∷ [])

limits_more : (es : List Entry) (e : Entry) (bytes : ℕ) → IsWithinLimits es → bytes ≡ sum_by (λ x. length x.body) es → length es < objects_limit → bytes ≤ bytes_limit → length e.body ≤ body_limit → IsWithinLimits (es ++ e ∷ [])
limits_more es e bytes h counted few small short = record {
  bodies = all-append (λ (x : Entry). length x.body ≤ body_limit) es (e ∷ []) h.bodies (short, tt);
  objects = omega (arith, length-push es e, few);
  bytes = omega (arith, bytes-push es e, counted, small);
}

counted_more : (es : List Entry) (e : Entry) (bytes now : ℕ) → bytes ≡ sum_by (λ x. length x.body) es → now ≡ bytes + length e.body → now ≡ sum_by (λ x. length x.body) (es ++ e ∷ [])
counted_more es e bytes now counted is =
    let one = sum_by-append (λ (x : Entry). length x.body) es (e ∷ []) in
    let last = sum_by-cons (λ (x : Entry). length x.body) e [] in
    omega (arith, one, last, counted, is)

object_good : (id : Kind → List ℕ → List ℕ) (e : Entry) → IsObject id e → HasItsChildrenAndName id e
object_good id e h = record { good = record { kids = h.kids }; named = h.named }

-- what waits under a name is held under it once all that waits is held
pub waits_held : (bodies : Bodies) (es : List Entry) (e : Entry) → AllHeld bodies es → IsHeldWhole (bodies_in es) e → IsHeldWhole bodies e
waits_held bodies es e all waits =
    elim (from_entry finite.empty es e.name e.body waits) [
      | inl held ↦ absurd (let both : None ≡ Some e.body = sym (none-empty e.name) ∙ held in cc)
      | inr (f, there, named, is) ↦ subst (λ (n : Name). body_of bodies n ≡ Some e.body) named (at_element (IsHeldWhole bodies) es f all there ∙ ap (λ (y : List ℕ). Some y) is)
    ]

pub all_within : (a b : Bodies) (es : List Entry) → IsWithin a b → AllHeld a es → AllHeld b es
all_within a b es w h = all_as (IsHeldWhole a) (IsHeldWhole b) (λ e held. w e.name e.body held) es h

-- another body stays
pub other_within : (a b : Bodies) (e : Entry) → IsWithin a b → HasOther a e → HasOther b e
other_within a b e w (body, there, other) = (body, w e.name body there, other)

-- what is held but for a batch stays so
held_or_waits : (a b : Bodies) (waiting : List Entry) → IsWithin a b → (e : Entry) → IsHeldWhole a e ⊎ IsHeldWhole (bodies_in waiting) e → IsHeldWhole b e ⊎ IsHeldWhole (bodies_in waiting) e
held_or_waits a b waiting w e (inl held) = inl (w e.name e.body held)
held_or_waits a b waiting w e (inr waits) = inr waits

pub batch_within : (a b : Bodies) (es : List Entry) → IsWithin a b → AreSentButABatch a es → AreSentButABatch b es
batch_within a b es w h = record {
  waiting = h.waiting;
  among = h.among;
  limits = h.limits;
  each = all_as (λ e. IsHeldWhole a e ⊎ IsHeldWhole (bodies_in h.waiting) e) (λ e. IsHeldWhole b e ⊎ IsHeldWhole (bodies_in h.waiting) e) (held_or_waits a b h.waiting w) es h.each;
}

module _ {N : Type 0} (id : Kind → List ℕ → List ℕ) (alone : Bool) where
  -- nothing waits
  pub waits_none : (bodies : Bodies) (p : Pending N) → p.objects.items ≡ [] → p.held ≡ [] → p.bytes ≡ 0 → IsPendingBatch id alone bodies p
  waits_none bodies p objects held bytes = record {
    held = held ∙ sym objects;
    apart = subst (AreNew finite.empty) (sym objects) tt;
    new = λ one. subst (AreNew bodies) (sym objects) tt;
    good = subst (AllByRecursion (HasItsChildrenAndName id)) (sym objects) tt;
    limits = subst IsWithinLimits (sym objects) (record { bodies = tt; objects = omega arith; bytes = omega arith });
    counted = bytes ∙ ap (sum_by (λ (e : Entry). length e.body)) (sym objects);
  }

  -- others may have added something
  pub waits_on : (a b : Bodies) (p : Pending N) → (alone ≡ true → b ≡ a) → IsPendingBatch id alone a p → IsPendingBatch id alone b p
  waits_on a b p same h = record {
    held = h.held;
    apart = h.apart;
    new = λ one. subst (λ (t : Bodies). AreNew t p.objects.items) (sym (same one)) (h.new one);
    good = h.good;
    limits = h.limits;
    counted = h.counted;
  }

  pub keeps_within : (a b : Bodies) (p : Pending N) → IsWithin a b → KeepsInHand a p b p
  keeps_within a b p w e (inl held) = inl (w e.name e.body held)
  keeps_within a b p w e (inr waits) = inr waits

  -- all that waited was sent
  pub keeps_sent : (a b : Bodies) (p q : Pending N) → IsWithin a b → AllHeld b p.objects.items → KeepsInHand a p b q
  keeps_sent a b p q w all e (inl held) = inl (w e.name e.body held)
  keeps_sent a b p q w all e (inr waits) = inl (waits_held b p.objects.items e all waits)

  pub room_kept : (bodies : Bodies) (p : Pending N) → IsPendingBatch id alone bodies p → BatchHasRoom p → HasRoomNow id alone bodies p bodies p
  room_kept bodies p waiting room = record { room = room; among = among_all p.objects.items; waiting = waiting; keeps = λ e h. h }

  pub room_made : (a b : Bodies) (p q : Pending N) → IsWithin a b → AllHeld b p.objects.items → q.objects.items ≡ [] → q.held ≡ [] → q.bytes ≡ 0 → HasRoomNow id alone a p b q
  room_made a b p q w all objects held bytes = record {
    room = record { few = let l = ap length objects in omega (arith, l); small = omega (arith, bytes) };
    among = subst (AreAmong p.objects.items) (sym objects) tt;
    waiting = waits_none b q objects held bytes;
    keeps = keeps_sent a b p q w all;
  }

  -- one more waits
  not_added : (bodies : Bodies) (p : Pending N) (e : Entry) → IsPendingBatch id alone bodies p → body_of (bodies_in p.held) e.name ≡ None → body_of bodies e.name ≡ None → body_of (added bodies p.objects.items) e.name ≡ None
  not_added bodies p e w absent none =
      none-added bodies p.objects.items e.name (none_named finite.empty p.objects.items e.name (ap (λ (es : List Entry). body_of (bodies_in es) e.name) (sym w.held) ∙ absent)) none

  waits_more : (bodies : Bodies) (p q : Pending N) (e : Entry) → IsObject id e → IsPendingBatch id alone bodies p → BatchHasRoom p → body_of bodies e.name ≡ None → IsJoined p q e → IsPendingBatch id alone bodies q
  waits_more bodies p q e o w room none j = record {
    held = j.put.is_last ∙ ap (λ (es : List Entry). es ++ e ∷ []) w.held ∙ sym j.objects;
    apart = subst (AreNew finite.empty) (sym j.objects) (new-push finite.empty p.objects.items e w.apart (ap (λ (es : List Entry). body_of (bodies_in es) e.name) (sym w.held) ∙ j.put.absent));
    new = λ one. subst (AreNew bodies) (sym j.objects) (new-push bodies p.objects.items e (w.new one) (not_added bodies p e w j.put.absent none));
    good = subst (AllByRecursion (HasItsChildrenAndName id)) (sym j.objects) (all-append (HasItsChildrenAndName id) p.objects.items (e ∷ []) w.good (object_good id e o, tt));
    limits = subst IsWithinLimits (sym j.objects) (limits_more p.objects.items e p.bytes w.limits w.counted room.few room.small o.short);
    counted = counted_more p.objects.items e p.bytes q.bytes w.counted j.bytes ∙ ap (sum_by (λ (x : Entry). length x.body)) (sym j.objects);
  }

  waiting_more : (p q : Pending N) (e : Entry) → q.objects.items ≡ p.objects.items ++ e ∷ [] → bodies_in q.objects.items ≡ finite.insert (bodies_in p.objects.items) e.name e.body
  waiting_more p q e es = ap bodies_in es ∙ added-append finite.empty p.objects.items (e ∷ [])

  keeps_more : (bodies : Bodies) (p q : Pending N) (e : Entry) → body_of (bodies_in p.objects.items) e.name ≡ None → q.objects.items ≡ p.objects.items ++ e ∷ [] → KeepsInHand bodies p bodies q
  keeps_more bodies p q e absent es x (inl held) = inl held
  keeps_more bodies p q e absent es x (inr waits) =
      inr (subst (λ (b : Bodies). IsHeldWhole b x) (sym (waiting_more p q e es)) (within-put (bodies_in p.objects.items) e.name e.body absent x.name x.body waits))

  pub taken_new : (bodies : Bodies) (p q : Pending N) (e : Entry) → IsObject id e → IsPendingBatch id alone bodies p → BatchHasRoom p → body_of bodies e.name ≡ None → IsJoined p q e → IsTakenIn id alone bodies p e bodies q
  taken_new bodies p q e o w room none j = record {
    waiting = waits_more bodies p q e o w room none j;
    among = subst (AreAmong (p.objects.items ++ e ∷ [])) (sym j.objects) (among_all (p.objects.items ++ e ∷ []));
    keeps = keeps_more bodies p q e (ap (λ (es : List Entry). body_of (bodies_in es) e.name) (sym w.held) ∙ j.put.absent) j.objects;
    taken = inr (subst (λ (b : Bodies). IsHeldWhole b e) (sym (waiting_more p q e j.objects)) (body-put (bodies_in p.objects.items) e.name e.body));
  }

  -- it waits already
  pub taken_waiting : (bodies : Bodies) (p q : Pending N) (e : Entry) → IsPendingBatch id alone bodies p → body_of (bodies_in p.held) e.name ≡ Some e.body → q ≡ p → IsTakenIn id alone bodies p e bodies q
  taken_waiting bodies p q e w is same = subst (λ (r : Pending N). IsTakenIn id alone bodies p e bodies r) (sym same) (record {
    waiting = w;
    among = among_front p.objects.items (e ∷ []) p.objects.items (among_all p.objects.items);
    keeps = λ x h. h;
    taken = inr (ap (λ (es : List Entry). body_of (bodies_in es) e.name) (sym w.held) ∙ is);
  })

  -- it is held
  pub taken_held : (a b : Bodies) (p : Pending N) (e : Entry) → IsPendingBatch id alone b p → IsWithin a b → IsHeldWhole b e → IsTakenIn id alone a p e b p
  taken_held a b p e waiting w held = record {
    waiting = waiting;
    among = among_front p.objects.items (e ∷ []) p.objects.items (among_all p.objects.items);
    keeps = keeps_within a b p w;
    taken = inl held;
  }

  pub taken_other : (bodies : Bodies) (p : Pending N) (e : Entry) (name : Name) → name ≡ e.name → HasOther bodies e → IsMet bodies (p.objects.items ++ e ∷ []) name
  taken_other bodies p e name is other = record { entry = e; among = last_among p.objects.items e; named = is; other = other }

  -- another body waits under its name, and was sent
  pub other_sent : (bodies : Bodies) (p : Pending N) (e : Entry) (name : Name) → e.name ≡ name → HasOther (bodies_in p.objects.items) e → AllHeld bodies p.objects.items → IsMet bodies (p.objects.items ++ e ∷ []) name
  other_sent bodies p e name is (body, there, other) all =
      taken_other bodies p e name (sym is) (body, waits_held bodies p.objects.items (record e { body = body }) all there, other)

  pub met_front : (bodies : Bodies) (p : Pending N) (e : Entry) (name : Name) → IsMet bodies p.objects.items name → IsMet bodies (p.objects.items ++ e ∷ []) name
  met_front bodies p e name m = met_among bodies (p.objects.items ++ e ∷ []) p.objects.items name (among_front p.objects.items (e ∷ []) p.objects.items (among_all p.objects.items)) m

  -- after a look
  pub taken_looked : (a b c : Bodies) (p : Pending N) (e : Entry) (t : Taken N) → IsWithin a b → TakesEntry id alone b p e c t → TakesEntry id alone a p e c t
  taken_looked a b c p e (Waits q) w t = record { waiting = t.waiting; among = t.among; keeps = λ x h. t.keeps x (keeps_within a b p w x h); taken = t.taken }
  taken_looked a b c p e (Collides name) w t = t

  -- once room was made
  pub taken_roomy : (a b c : Bodies) (p q : Pending N) (e : Entry) (t : Taken N) → HasRoomNow id alone a p b q → TakesEntry id alone b q e c t → TakesEntry id alone a p e c t
  taken_roomy a b c p q e (Waits r) room t = record {
    waiting = t.waiting;
    among = among_further (p.objects.items ++ e ∷ []) (q.objects.items ++ e ∷ []) r.objects.items (among_push p.objects.items q.objects.items e room.among) t.among;
    keeps = λ x h. t.keeps x (room.keeps x h);
    taken = t.taken;
  }
  taken_roomy a b c p q e (Collides name) room t = met_among c (p.objects.items ++ e ∷ []) (q.objects.items ++ e ∷ []) name (among_push p.objects.items q.objects.items e room.among) t

  -- the objects that were taken in, and those that are left
  pub record Took (bodies : Bodies) (p : Pending N) (all left : List Entry) : Type 0 where
    pub done : List Entry
    pub cut : all ≡ done ++ left
    pub each : AllByRecursion (IsInHand bodies p) done

  pub took_next : (a b : Bodies) (p q : Pending N) (all left next : List Entry) (e : Entry) → Took a p all left → left ≡ (e ∷ []) ++ next → IsTakenIn id alone a p e b q → Took b q all next
  took_next a b p q all left next e t cut h = record {
    done = t.done ++ e ∷ [];
    cut = t.cut ∙ ap (λ (x : List Entry). t.done ++ x) cut ∙ sym (append_assoc t.done (e ∷ []) next);
    each = all-append (IsInHand b q) t.done (e ∷ []) (all_as (IsInHand a p) (IsInHand b q) h.keeps t.done t.each) (h.taken, tt);
  }

  -- others may have added something since
  pub taken_on : (a b c : Bodies) (p q : Pending N) (es : List Entry) → (alone ≡ true → c ≡ b) → IsWithin b c → AreTakenIn id alone a p es b q → AreTakenIn id alone a p es c q
  taken_on a b c p q es same w t = record {
    waiting = waits_on b c q same t.waiting;
    among = t.among;
    keeps = λ e h. keeps_within b c q w e (t.keeps e h);
    taken = all_as (IsInHand b q) (IsInHand c q) (keeps_within b c q w) es t.taken;
  }

  in_hand_held : (a b : Bodies) (p : Pending N) → IsWithin a b → AllHeld b p.objects.items → (e : Entry) → IsInHand a p e → IsHeldWhole b e
  in_hand_held a b p w sent e (inl held) = w e.name e.body held
  in_hand_held a b p w sent e (inr waits) = waits_held b p.objects.items e sent waits

  -- all was taken in
  pub took_in_hand : (bodies : Bodies) (p : Pending N) (all left : List Entry) → Took bodies p all left → left ≡ [] → AllByRecursion (IsInHand bodies p) all
  took_in_hand bodies p all left t none =
      let whole : all ≡ t.done = t.cut ∙ ap (λ (x : List Entry). t.done ++ x) none ∙ append-nil t.done in
      subst (AllByRecursion (IsInHand bodies p)) (sym whole) t.each

  -- what waited was sent
  pub sent_after : (a b c : Bodies) (p q : Pending N) (es : List Entry) (o : Option Name) → AreTakenIn id alone a p es b q → IsWithin b c → AreSent c q.objects.items o → AreSentAfter a p es c o
  sent_after a b c p q es None t w sent = (λ e h. in_hand_held b c q w sent e (t.keeps e h), all_as (IsInHand b q) (IsHeldWhole c) (in_hand_held b c q w sent) es t.taken)
  sent_after a b c p q es (Some name) t w met = met_among c (p.objects.items ++ es) q.objects.items name t.among met

-- a batch of some of these is one of these
pub batch_as : (alone : Bool) (xs ys : List Entry) → AreAmong xs ys → (what : EventKind) → IsBatchAmong alone ys what → IsBatchAmong alone xs what
batch_as alone xs ys h what b = record { entries = b.entries; is = b.is; some = b.some; among = among_further xs ys b.entries h b.among }

pub asked_as : (xs ys : List Entry) → AreAmong xs ys → (wish : Wish) → IsBatchAsked ys wish → IsBatchAsked xs wish
asked_as xs ys h wish b = record { entries = b.entries; is = b.is; some = b.some; among = among_further xs ys b.entries h b.among }

module _ {S : Type 0} (id : Kind → List ℕ → List ℕ) (w : Protocol S) (law : IsLawful id w) (xs ys : List Entry) (among : AreAmong xs ys) (a b c : S) (first : Adds w (IsBatchAmong w.alone xs) [] a b) where
  -- batches of some of these, after those before them
  pub adds_more : Adds w (IsBatchAmong w.alone ys) [] b c → Adds w (IsBatchAmong w.alone xs) [] a c
  adds_more k = adds_then id w law (IsBatchAmong w.alone xs) [] [] a b c first (adds_as id w law (IsBatchAmong w.alone ys) (IsBatchAmong w.alone xs) [] b c (batch_as w.alone xs ys among) k)

  pub stops_more : (why : Stop) → StopsAfter id w (IsBatchAmong w.alone ys) (IsBatchAsked ys) [] b c why → StopsAfter id w (IsBatchAmong w.alone xs) (IsBatchAsked xs) [] a c why
  stops_more why k =
      after_then id w law (IsBatchAmong w.alone xs) (IsBatchAsked xs) [] [] a b c why first
      (after_as id w law (IsBatchAmong w.alone ys) (IsBatchAmong w.alone xs) (IsBatchAsked ys) (IsBatchAsked xs) [] b c why (batch_as w.alone xs ys among) (asked_as xs ys among) k)

  pub stops_next : (why : Stop) → StopsNow id w (IsBatchAsked ys) b c why → StopsAfter id w (IsBatchAmong w.alone xs) (IsBatchAsked xs) [] a c why
  stops_next why k = record { mid = b; first = first; stops = asking_as id w law (IsBatchAsked ys) (IsBatchAsked xs) b c why (asked_as xs ys among) k }

-- a cut behind what waited before
pub front_cut : (front all done left : List Entry) → all ≡ done ++ left → front ++ all ≡ (front ++ done) ++ left
front_cut front all done left cut = ap (λ (t : List Entry). front ++ t) cut ∙ sym (append_assoc front done left)

-- an entry under whose name another body waits collides once what waits is held
pub met_before : {N : Type 0} (bodies : Bodies) (p q : Pending N) (e : Entry) (name : Name) → p.held ≡ p.objects.items → JoinsBatch p q e Other → (HasOther (bodies_in q.objects.items) e → IsMet bodies (q.objects.items ++ e ∷ []) name)
    → IsMet bodies (p.objects.items ++ e ∷ []) name
met_before {N} bodies p q e name held joins met =
    let same : q.objects.items ≡ p.objects.items = ap (λ (r : Pending N). r.objects.items) joins.1 in
    let other : HasOther (bodies_in p.objects.items) e = subst (λ (es : List Entry). HasOther (bodies_in es) e) held joins.0 in
    subst (λ (es : List Entry). IsMet bodies (es ++ e ∷ []) name) same (met (subst (λ (es : List Entry). HasOther (bodies_in es) e) (sym same) other))
