-- An input that is read part by part: what it gave is held, or waits.
use Rattle.std.proofs.Common.{◌≡◌, ◌⊎◌, inl, inr, ℕ, Bool, Result, Ok, Err, List, [], ◌∷◌, ◌++◌, refl, sym, ap, ◌∙◌, subst, append_assoc}
use Rattle.std.specs.Prelude.{IfOk, IfErr}
use Rattle.std.specs.declared.cmp.Ordering.{Ordering}
use Rattle.std.specs.Global.{Vec}
use Rattle.std.specs.List.{AllByRecursion}
use Rattle.std.specs.List.Sorted.{IsPermutation, IsSorted}
use Rattle.std.proofs.lemmas.List.{append-nil, map-append}
use Rattle.swh_base.specs.declared.kind.Kind.{Kind}
use Rattle.swh_base.specs.declared.name.Name.{Name}
use Rattle.swh_base.specs.declared.entry.Entry.{Entry}
use Rattle.swh_base.specs.contracts.name.NameOrd.TheImpl.{cmp-value}
use Rattle.swh_base.specs.Snapshot.{snapshot_name}
use Rattle.swh_base.proofs.Elementary.{all_as}
use Rattle.swh_closure.proofs.Order.{order_is}
use Rattle.swh_model.specs.declared.event.EventKind.{EventKind}
use Rattle.swh_model.specs.declared.event.Wish.{Wish}
use Rattle.swh_model.specs.Archive.{Bodies, IsClosed}
use Rattle.swh_model.specs.Grows.{IsWithin}
use Rattle.swh_model.proofs.Entries.{all-append}
use Rattle.swh_dedup.specs.declared.objects.Objects.{Objects}
use Rattle.swh_dedup.specs.Whole.{names_of}
use Rattle.swh_ingest.specs.Knowing.{Protocol, IsLawful, held_in}
use Rattle.swh_ingest.specs.declared.end.End.{End}
use Rattle.swh_ingest.specs.declared.parts.Next.{Next}
use Rattle.swh_ingest.specs.declared.parts.Next.TheVariants as next
use Rattle.swh_ingest.specs.declared.pending.Pending.{Pending}
use Rattle.swh_ingest.specs.declared.sending_parts.Sent.{Sent}
use Rattle.swh_ingest.specs.declared.sending_parts.Sent.TheVariants as sent
use Rattle.swh_ingest.specs.declared.stop.Stop.{Stop}
use Rattle.swh_ingest.specs.Loading.{last_at}
use Rattle.swh_ingest.specs.Owning.{AreAmong, IsBatchAmong, IsBatchAsked}
use Rattle.swh_ingest.specs.Parts.{AreInOrder, objects_in, IsPart, Gave, GaveSoFar, GaveSome, GaveAll, MayHaveGiven, AreGiven, IsReadOn, IsSentSo, IsGivenEnd, IsBatchFor, IsBatchAskedFor, IsLastSent, IsNamed, IsSameOrUnbroken, IsUnbroken, IfAll, IfBad, ReachesAll, end_of}
use Rattle.swh_ingest.specs.Sending.{IsHeldWhole, IsInHand, IsMet, IsPendingBatch, AreSentButABatch, AreTakenIn}
use Rattle.swh_ingest.specs.Walking.{Adds, StopsAfter}
use Rattle.swh_ingest.proofs.Closes.{reaches_closed}
use Rattle.swh_ingest.proofs.Steps.{adds_as, adds_then, adds_within, after_as, after_then}
use Rattle.swh_ingest.proofs.Waiting.{among_both, among_further, all_within, batch_within, met_among, other_within}

-- names of objects, and of more of them
pub named_more : (names all : List Name) (objects more : List Entry) → names ≡ names_of objects → all ≡ names ++ names_of more → all ≡ names_of (objects ++ more)
named_more names all objects more are is = is ∙ ap (λ (ns : List Name). ns ++ names_of more) are ∙ sym (map-append (λ (e : Entry). e.name) objects more)

-- names once they are sorted
pub in_order : (names sorted : List Name) → IsPermutation names sorted → IsSorted cmp-value.it sorted → AreInOrder names sorted
in_order names sorted same ascending = record { same = same; ascending = subst (λ (R : Name → Name → Ordering). IsSorted R sorted) order_is ascending }

objects_in-push : (parts : List (List Entry)) (part : List Entry) → objects_in (parts ++ part ∷ []) ≡ objects_in parts ++ part
objects_in-push [] part = append-nil part
objects_in-push (p ∷ parts) part = ap (λ (t : List Entry). p ++ t) (objects_in-push parts part) ∙ sym (append_assoc p (objects_in parts) part)

module _ {I N B E : Type 0} (Gives : I → Result (Next N B) E → I → Type 0) where
  gave-push : (parts : List (List Entry)) (part : List Entry) (i mid now : I) → Gave Gives parts i mid → IsPart Gives mid part now → Gave Gives (parts ++ part ∷ []) i now
  gave-push [] part i mid now g p = (now, subst (λ (j : I). IsPart Gives j part now) g p, refl)
  gave-push (q ∷ parts) part i mid now g p = (g.0, g.1, gave-push parts part g.0 mid now g.2 p)

  -- nothing was read
  pub so_far_none : (i : I) → GaveSoFar Gives i [] i
  so_far_none i = record { parts = []; are = refl; gave = refl }

  -- one part more
  pub so_far_more : (i mid now : I) (front : List Entry) (objects : Vec Entry) → GaveSoFar Gives i front mid → Gives mid (Ok (next.Part objects)) now → GaveSoFar Gives i (front ++ objects.items) now
  so_far_more i mid now front objects h gives = record {
    parts = h.parts ++ objects.items ∷ [];
    are = ap (λ (t : List Entry). t ++ objects.items) h.are ∙ sym (objects_in-push h.parts objects.items);
    gave = gave-push h.parts objects.items i mid now h.gave (record { objects = objects; are = refl; gives = gives });
  }

  -- what was given with a part, and with the last one
  some_given : (i mid now : I) (front : List Entry) (objects : Vec Entry) → GaveSoFar Gives i front mid → Gives mid (Ok (next.Part objects)) now → GaveSome Gives i (front ++ objects.items) now
  some_given i mid now front objects h gives = record { front = front; mid = mid; so_far = h; part = objects; gives = gives; are = refl }

  all_given : (i mid now : I) (front : List Entry) (last : Objects N) → GaveSoFar Gives i front mid → Gives mid (Ok (next.Last last)) now → GaveAll Gives i (front ++ last.objects.items) last.snapshot now
  all_given i mid now front last h gives = record { front = front; mid = mid; so_far = h; last = last; gives = gives; are = refl; root = refl }

  -- the input was read up to here
  pub read_on : (i mid now : I) (front : List Entry) (found : Result (Next N B) E) → GaveSoFar Gives i front mid → Gives mid found now → IsReadOn Gives i now
  read_on i mid now front found h gives = record { front = front; mid = mid; so_far = h; rest = inr (found, gives) }

  -- the input was not found bad
  pub unbroken_some : (i mid now : I) (front : List Entry) (objects : Vec Entry) → GaveSoFar Gives i front mid → Gives mid (Ok (next.Part objects)) now → IsUnbroken Gives i now
  unbroken_some i mid now front objects h gives = inl (front ++ objects.items, inl (some_given i mid now front objects h gives))

  pub unbroken_all : (i mid now : I) (front : List Entry) (last : Objects N) → GaveSoFar Gives i front mid → Gives mid (Ok (next.Last last)) now → IsUnbroken Gives i now
  unbroken_all i mid now front last h gives = inl (front ++ last.objects.items, inr (last.snapshot, all_given i mid now front last h gives))

  pub unbroken_none : (i mid now : I) (front : List Entry) (fault : E) → GaveSoFar Gives i front mid → Gives mid (Err fault) now → IsUnbroken Gives i now
  unbroken_none i mid now front fault h gives = inr (record { front = front; mid = mid; so_far = h; fault = fault; gives = gives })

  -- nor was one that is as it was
  pub heard_on : (i now : I) (X : Type 0) → IsUnbroken Gives i now ⊎ X → IsSameOrUnbroken Gives i now ⊎ X
  heard_on i now X (inl h) = inl (inr h)
  heard_on i now X (inr x) = inr x

  module _ (i : I) where
    -- What an input gave so far is in hand.
    pub record HasInHand (bodies : Bodies) (p : Pending N) (now : I) : Type 0 where
      pub objects : List Entry
      pub so_far : GaveSoFar Gives i objects now
      pub among : AreAmong objects p.objects.items
      pub each : AllByRecursion (IsInHand bodies p) objects

    unfoldable pub hand_none : (bodies : Bodies) (p : Pending N) → p.objects.items ≡ [] → HasInHand bodies p i
    hand_none bodies p none = record { objects = []; so_far = so_far_none i; among = subst (AreAmong []) (sym none) tt; each = tt }

    unfoldable pub hand_more : (id : Kind → List ℕ → List ℕ) (alone : Bool) (a b : Bodies) (p q : Pending N) (mid now then : I) (objects : Vec Entry) → HasInHand a p mid → Gives mid (Ok (next.Part objects)) now → then ≡ now → AreTakenIn id alone a p objects.items b q → HasInHand b q then
    hand_more id alone a b p q mid now then objects h gives same t = record {
      objects = h.objects ++ objects.items;
      so_far = subst (GaveSoFar Gives i (h.objects ++ objects.items)) (sym same) (so_far_more i mid now h.objects objects h.so_far gives);
      among = among_further (h.objects ++ objects.items) (p.objects.items ++ objects.items) q.objects.items (among_both h.objects p.objects.items objects.items h.among) t.among;
      each = all-append (IsInHand b q) h.objects objects.items (all_as (IsInHand a p) (IsInHand b q) t.keeps h.objects h.each) t.taken;
    }

    -- a batch of what was given
    given_batch : (alone : Bool) (objects ys : List Entry) (now : I) → MayHaveGiven Gives i objects now → AreAmong objects ys → (what : EventKind) → IsBatchAmong alone ys what → IsBatchFor alone (AreGiven Gives i) what
    given_batch alone objects ys now given among what b = record {
      entries = b.entries;
      is = b.is;
      some = b.some;
      allowed = record { objects = objects; now = now; given = given; among = among_further objects ys b.entries among b.among };
    }

    given_asked : (objects ys : List Entry) (now : I) → MayHaveGiven Gives i objects now → AreAmong objects ys → (wish : Wish) → IsBatchAsked ys wish → IsBatchAskedFor (AreGiven Gives i) wish
    given_asked objects ys now given among wish b = record {
      entries = b.entries;
      is = b.is;
      some = b.some;
      allowed = record { objects = objects; now = now; given = given; among = among_further objects ys b.entries among b.among };
    }

    module _ {S : Type 0} (id : Kind → List ℕ → List ℕ) (w : Protocol S) (law : IsLawful id w) where
      abbrev Sends : S → S → Type 0
      Sends a b = Adds w (IsBatchFor w.alone (AreGiven Gives i)) [] a b

      abbrev StopsSending : S → S → Stop → Type 0
      StopsSending a b why = StopsAfter id w (IsBatchFor w.alone (AreGiven Gives i)) (IsBatchAskedFor (AreGiven Gives i)) [] a b why

      module _ (h_bodies : Bodies) (p : Pending N) (mid now : I) (h : HasInHand h_bodies p mid) (a m b : S) (first : Sends a m) where
        -- after a part
        pub part_adds : (objects : Vec Entry) → Gives mid (Ok (next.Part objects)) now → Adds w (IsBatchAmong w.alone (p.objects.items ++ objects.items)) [] m b → Sends a b
        part_adds objects gives k =
            let ys = p.objects.items ++ objects.items in
            adds_then id w law (IsBatchFor w.alone (AreGiven Gives i)) [] [] a m b first
            (adds_as id w law (IsBatchAmong w.alone ys) (IsBatchFor w.alone (AreGiven Gives i)) [] m b (given_batch w.alone (h.objects ++ objects.items) ys now (inl (some_given i mid now h.objects objects h.so_far gives)) (among_both h.objects p.objects.items objects.items h.among)) k)

        pub part_stops : (objects : Vec Entry) (why : Stop) → Gives mid (Ok (next.Part objects)) now → StopsAfter id w (IsBatchAmong w.alone (p.objects.items ++ objects.items)) (IsBatchAsked (p.objects.items ++ objects.items)) [] m b why → StopsSending a b why
        part_stops objects why gives k =
            let ys = p.objects.items ++ objects.items in
            let given = some_given i mid now h.objects objects h.so_far gives in
            let among = among_both h.objects p.objects.items objects.items h.among in
            after_then id w law (IsBatchFor w.alone (AreGiven Gives i)) (IsBatchAskedFor (AreGiven Gives i)) [] [] a m b why first
            (after_as id w law (IsBatchAmong w.alone ys) (IsBatchFor w.alone (AreGiven Gives i)) (IsBatchAsked ys) (IsBatchAskedFor (AreGiven Gives i)) [] m b why (given_batch w.alone (h.objects ++ objects.items) ys now (inl given) among) (given_asked (h.objects ++ objects.items) ys now (inl given) among) k)

        -- after the last part
        pub last_adds : (last : Objects N) → Gives mid (Ok (next.Last last)) now → Adds w (IsBatchAmong w.alone (p.objects.items ++ last.objects.items)) [] m b → Sends a b
        last_adds last gives k =
            let ys = p.objects.items ++ last.objects.items in
            adds_then id w law (IsBatchFor w.alone (AreGiven Gives i)) [] [] a m b first
            (adds_as id w law (IsBatchAmong w.alone ys) (IsBatchFor w.alone (AreGiven Gives i)) [] m b (given_batch w.alone (h.objects ++ last.objects.items) ys now (inr (last.snapshot, all_given i mid now h.objects last h.so_far gives)) (among_both h.objects p.objects.items last.objects.items h.among)) k)

        pub last_stops : (last : Objects N) (why : Stop) → Gives mid (Ok (next.Last last)) now → StopsAfter id w (IsBatchAmong w.alone (p.objects.items ++ last.objects.items)) (IsBatchAsked (p.objects.items ++ last.objects.items)) [] m b why → StopsSending a b why
        last_stops last why gives k =
            let ys = p.objects.items ++ last.objects.items in
            let given : MayHaveGiven Gives i (h.objects ++ last.objects.items) now = inr (last.snapshot, all_given i mid now h.objects last h.so_far gives) in
            let among = among_both h.objects p.objects.items last.objects.items h.among in
            after_then id w law (IsBatchFor w.alone (AreGiven Gives i)) (IsBatchAskedFor (AreGiven Gives i)) [] [] a m b why first
            (after_as id w law (IsBatchAmong w.alone ys) (IsBatchFor w.alone (AreGiven Gives i)) (IsBatchAsked ys) (IsBatchAskedFor (AreGiven Gives i)) [] m b why (given_batch w.alone (h.objects ++ last.objects.items) ys now given among) (given_asked (h.objects ++ last.objects.items) ys now given among) k)

    -- what collides among what was given
    pub part_met : (a b : Bodies) (p : Pending N) (mid now : I) (objects : Vec Entry) (name : Name) → HasInHand a p mid → Gives mid (Ok (next.Part objects)) now → IsMet b (p.objects.items ++ objects.items) name → IsSentSo Gives b i now (sent.Met name)
    part_met a b p mid now objects name h gives met = (
      h.objects ++ objects.items,
      inl (some_given i mid now h.objects objects h.so_far gives),
      met_among b (h.objects ++ objects.items) (p.objects.items ++ objects.items) name (among_both h.objects p.objects.items objects.items h.among) met,
    )

    -- what became of all that was given
    pub last_sent : (a b : Bodies) (p : Pending N) (mid now : I) (last : Objects N) (names : List Name) (s : Sent B) → (h : HasInHand a p mid) → names ≡ names_of h.objects → Gives mid (Ok (next.Last last)) now → IsLastSent a p last b s → IsNamed (names ++ names_of last.objects.items) s → IsSentSo Gives b i now s
    last_sent a b p mid now last names (sent.All reached) h are gives l named = (
      h.objects ++ last.objects.items,
      record { front = h.objects; mid = mid; so_far = h.so_far; last = last; gives = gives; are = refl; root = l.0 },
      all-append (IsHeldWhole b) h.objects last.objects.items (all_as (IsInHand a p) (IsHeldWhole b) l.1.0 h.objects h.each) l.1.1,
      subst (λ (ns : List Name). AreInOrder ns reached.names.items) (named_more names (names ++ names_of last.objects.items) h.objects last.objects.items are refl) named,
    )
    last_sent a b p mid now last names (sent.Met name) h are gives met named = (
      h.objects ++ last.objects.items,
      inr (last.snapshot, all_given i mid now h.objects last h.so_far gives),
      met_among b (h.objects ++ last.objects.items) (p.objects.items ++ last.objects.items) name (among_both h.objects p.objects.items last.objects.items h.among) met,
    )
    last_sent a b p mid now last names (sent.Bad bad) h are gives l named = absurd l

    -- what was given so far is held, but for what waits
    pub hand_sent : (id : Kind → List ℕ → List ℕ) (alone : Bool) (bodies : Bodies) (p : Pending N) (now : I) (h : HasInHand bodies p now) → IsPendingBatch id alone bodies p → AreSentButABatch bodies h.objects
    hand_sent id alone bodies p now h waits = record { waiting = p.objects.items; among = h.among; limits = waits.limits; each = h.each }

    -- what became of its objects says whether it was found bad
    pub heard_sent : {F : Type 0} (bodies : Bodies) (now : I) (s : Sent B) (r : Result (End B) F) (P : F → Type 0) → IsSentSo Gives bodies i now s → IfErr r (λ why. IfBad s (P why)) → IfErr r (λ why. IsUnbroken Gives i now ⊎ P why)
    heard_sent bodies now s (Ok end) P h bad = tt
    heard_sent bodies now (sent.All reached) (Err why) P h bad = inl (inl (h.0, inr (reached.snapshot, h.1)))
    heard_sent bodies now (sent.Met name) (Err why) P h bad = inl (inl (h.0, h.1))
    heard_sent bodies now (sent.Bad b) (Err why) P h bad = inr bad

    -- all that was sent is still held
    pub end_on : (a b : Bodies) (now : I) (s : Sent B) (end : End B) → IsWithin a b → end ≡ end_of s → IsSentSo Gives a i now s → IsGivenEnd Gives b i now end
    end_on a b now s end w is h = subst (IsGivenEnd Gives b i now) (sym is) (on s h)
      where
        on : (s : Sent B) → IsSentSo Gives a i now s → IsGivenEnd Gives b i now (end_of s)
        on (sent.All reached) h = (h.0, h.1, all_within a b h.0 w h.2)
        on (sent.Met name) h = (h.0, h.1, record { entry = h.2.entry; among = h.2.among; named = h.2.named; other = other_within a b h.2.entry w h.2.other })
        on (sent.Bad bad) h = record { broke = h.broke; sent = batch_within a b h.broke.front w h.sent }

    -- where all was sent, the snapshot is closed
    pub sent_closed : (id : Kind → List ℕ → List ℕ) (bodies : Bodies) (now : I) (s : Sent B) → ((objects : List Entry) (snapshot : List ℕ) (then : I) → GaveAll Gives i objects snapshot then → ReachesAll id objects snapshot) → IsSentSo Gives bodies i now s → IfAll s (λ snapshot. IsClosed bodies (snapshot_name snapshot))
    sent_closed id bodies now (sent.All reached) whole h = reaches_closed id bodies h.0 reached.snapshot (whole h.0 reached.snapshot now h.1) h.2
    sent_closed id bodies now (sent.Met name) whole h = tt
    sent_closed id bodies now (sent.Bad bad) whole h = tt

    -- and so the end says
    module _ {S : Type 0} (id : Kind → List ℕ → List ℕ) (w : Protocol S) (law : IsLawful id w) where
      pub ends_given : {F : Type 0} (P : EventKind → Type 0) (m b : S) (now : I) (s : Sent B) (r : Result (End B) F) → IfOk r (λ end. end ≡ end_of s) → IfOk r (λ end. Adds w P (last_at end ∷ []) m b) → IsSentSo Gives (held_in (w.known m)) i now s → IfOk r (IsGivenEnd Gives (held_in (w.known b)) i now)
      ends_given P m b now s (Ok end) is adds h = end_on (held_in (w.known m)) (held_in (w.known b)) now s end (adds_within id w law P (last_at end ∷ []) m b adds) is h
      ends_given P m b now s (Err e) is adds h = tt
