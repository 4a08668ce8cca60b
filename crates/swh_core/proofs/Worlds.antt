-- What is made of a world keeps what every world keeps.
use Rattle.std.proofs.Common.{◌≡◌, inl, inr, ℕ, zero, suc, ◌<◌, ◌≤◌, Bool, if◌then◌else◌, Option, Some, None, List, [], ◌∷◌, ◌++◌, length, map, take, drop, slice_set, slice_get, replicate, refl, sym, ap, ◌∙◌, subst, arith, append_assoc, length-append, take_all, take-append-drop, le-leb}
use Rattle.std.proofs.lemmas.List.{append-nil, take-append-le, length-set, length-map}
use Rattle.std.specs.List.{AllByRecursion}
use Rattle.swh_base.specs.declared.kind.Kind.{Kind}
use Rattle.swh_outside.specs.Files.{Files, EachImages, files_done}
use Rattle.swh_model.specs.declared.event.Event.{Event}
use Rattle.swh_model.specs.Limits.{store_length}
use Rattle.swh_model.specs.Archive.{empty_archive}
use Rattle.swh_model.specs.Step.{May, IsHistory, replay}
use Rattle.swh_model.proofs.PlainSteps.{may-push}
use Rattle.swh_model.proofs.OneHistory.{one_history}
use Rattle.swh_format.specs.EventRecord.{IsCodable, AreCodable}
use Rattle.swh_format.specs.Stands.{StandsFor}
use Rattle.swh_format.proofs.HistoryFiles.{codable-at}
use Rattle.swh_format.specs.Record.{magic}
use Rattle.swh_format.proofs.Unique.{alike, none_from}
use Rattle.swh_segment.specs.Settled.{seen_of}
use Rattle.swh_segment.specs.Calls.{calls_for}
use Rattle.swh_segment.specs.Standing.{AreStanding, WithOrWithout}
use Rattle.swh_segment.proofs.Standings.{still, one_moments, one_added}
use Rattle.swh_core.specs.declared.parts.Parts.{Parts as World}
use Rattle.swh_core.specs.World.{files_on, rested, called, first_world, longer, sees, all_shown, joined, in_doubt, reopened}
use Rattle.swh_core.specs.Kept.{IsFront, MayStand, IsWorld, IsLater}
use Rattle.swh_core.proofs.Files.{two_images, rest_images, called_left, failed_left, all_take}
use Rattle.swh_core.proofs.Standing.{calls_on_two}

-- Fronts.

pub front_itself : (h : List Event) → IsFront h h
front_itself h = record { rest = []; is = sym (append-nil h) }

pub front_of_more : (h : List Event) (e : Event) → IsFront h (h ++ e ∷ [])
front_of_more h e = record { rest = e ∷ []; is = refl }

pub front_taken : (n : ℕ) (h : List Event) → IsFront (take n h) h
front_taken n h = record { rest = drop n h; is = sym (take-append-drop n h) }

pub front_then : (a b c : List Event) → IsFront a b → IsFront b c → IsFront a c
front_then a b c p q = record { rest = p.rest ++ q.rest; is = q.is ∙ ap (λ (l : List Event). l ++ q.rest) p.is ∙ append_assoc a p.rest q.rest }

front_short : (a b : List Event) → IsFront a b → length a ≤ length b
front_short a b p = omega (arith, ap length p.is, length-append a p.rest)

pub longer_whole : (a b : List Event) → IsFront a b → longer a b ≡ b
longer_whole a b p = ap (λ (t : Bool). if t then b else a) (le-leb (length a) (length b) (front_short a b p))

-- Lists all of whose items have something.

pub all_map : {A : Type 0} (P Q : A → Type 0) (xs : List A) → ((x : A) → P x → Q x) → AllByRecursion P xs → AllByRecursion Q xs
all_map P Q [] to all = tt
all_map P Q (x ∷ xs) to all = (to x all.0, all_map P Q xs to all.1)

all_set : {A : Type 0} (P : A → Type 0) (xs : List A) (i : ℕ) (y : A) → AllByRecursion P xs → P y → AllByRecursion P (slice_set xs i y)
all_set P [] i y all one = tt
all_set P (x ∷ xs) zero y all one = (one, all.1)
all_set P (x ∷ xs) (suc i) y all one = (all.0, all_set P xs i y all.1 one)

all_same : {A B : Type 0} (P : B → Type 0) (xs : List A) (y : B) → P y → AllByRecursion P (map (λ _. y) xs)
all_same P [] y one = tt
all_same P (x ∷ xs) y one = (one, all_same P xs y one)

pub all_get : {A : Type 0} (P : A → Type 0) (xs : List A) (i : ℕ) (x : A) → AllByRecursion P xs → slice_get xs i ≡ Some x → P x
all_get P [] i x all is = absurd (let e : None ≡ Some x = is in cc)
all_get P (y ∷ xs) zero x all is = let both : Some y ≡ Some x = is in let one : y ≡ x = cc in subst P one all.0
all_get P (y ∷ xs) (suc i) x all is = all_get P xs i x all.1 is

all_copies : {A : Type 0} (P : A → Type 0) (n : ℕ) (x : A) → P x → AllByRecursion P (replicate n x)
all_copies P zero x one = tt
all_copies P (suc n) x one = (one, all_copies P n x one)

pub whole_taken : (h : List Event) → take (length h) h ≡ h
whole_taken h = take_all (length h) h (omega arith)

-- files that hold bytes which stand for a history, with nothing written since a barrier
rested_standing : (h : List Event) (ledger store : List ℕ) → StandsFor ledger store h → AreStanding (files_on (rested ledger store) 0) (files_on (rested ledger store) 1) h
rested_standing h ledger store stands = record {
  ledger_rests = record { base = refl; ranges = refl; longest = refl };
  store_rests = record { base = refl; ranges = refl; longest = refl };
  stand = stands;
}

module _ (id_of : Kind → List ℕ → List ℕ) where
  pub first_kept : (actors : ℕ) → IsWorld id_of (first_world actors)
  first_kept actors = record {
    history = tt;
    shown = omega arith;
    kept = front_itself [];
    seen = all_copies (λ (f : List Event). IsFront f []) actors [] (front_itself []);
    images = still (files_on (rested (magic ++ 0 ∷ []) [])) [] (rested_standing [] (magic ++ 0 ∷ []) [] (none_from 0 [] (magic ++ 0 ∷ []) [] (λ e. absurd (omega (arith, e))) refl));
    rests = λ _. record { ledger = record { base = refl; ranges = refl; longest = refl }; store = record { base = refl; ranges = refl; longest = refl } };
    doubt = λ d is. absurd (let f : None ≡ Some d = is in cc);
  }

  module _ (w : World) (k : IsWorld id_of w) where
    -- what was seen is a front of the whole history
    pub kept_in : IsFront w.kept w.history
    kept_in = front_then w.kept (take w.shown w.history) w.history k.kept (front_taken w.shown w.history)

    pub shown_kept : IsWorld id_of (all_shown w)
    shown_kept = record {
      history = k.history;
      shown = omega arith;
      kept = subst (IsFront w.kept) (sym (whole_taken w.history)) kept_in;
      seen = k.seen;
      images = k.images;
      rests = k.rests;
      doubt = k.doubt;
    }

    pub shown_later : IsLater w (all_shown w)
    shown_later = record { history = front_itself w.history; kept = front_itself w.kept; actors = refl }

    pub sees_kept : (actor : ℕ) (front : List Event) → front ≡ take w.shown w.history → IsWorld id_of (sees actor front w)
    sees_kept actor front is =
        let within : IsFront w.kept front = subst (IsFront w.kept) (sym is) k.kept in
        let one : longer w.kept front ≡ front = longer_whole w.kept front within in
        record {
          history = k.history;
          shown = k.shown;
          kept = subst (λ (l : List Event). IsFront l (take w.shown w.history)) (sym one) (subst (IsFront front) is (front_itself front));
          seen = subst (λ (l : List Event). AllByRecursion (λ (f : List Event). IsFront f l) (slice_set w.seen actor front)) (sym one)
              (all_set (λ (f : List Event). IsFront f front) w.seen actor front (all_map (λ (f : List Event). IsFront f w.kept) (λ (f : List Event). IsFront f front) w.seen (λ f at. front_then f w.kept front at within) k.seen) (front_itself front));
          images = k.images;
          rests = k.rests;
          doubt = k.doubt;
        }

    pub sees_later : (actor : ℕ) (front : List Event) → front ≡ take w.shown w.history → IsLater w (sees actor front w)
    sees_later actor front is =
        let within : IsFront w.kept front = subst (IsFront w.kept) (sym is) k.kept in
        record {
          history = front_itself w.history;
          kept = subst (IsFront w.kept) (sym (longer_whole w.kept front within)) within;
          actors = length-set w.seen actor front;
        }

    module _ (none : w.doubt ≡ None) where
      -- with nothing in doubt the files stand for the history
      standing : AreStanding (files_on w.disks 0) (files_on w.disks 1) w.history
      standing = record {
        ledger_rests = (k.rests none).ledger;
        store_rests = (k.rests none).store;
        stand = subst (λ (d : Option Event). MayStand w.history d (seen_of (files_on w.disks))) none (k.images.has (seen_of (files_on w.disks)) (rest_images w.disks (k.rests none)));
      }

      module _ (e : Event) (may : May id_of (replay w.history) e) (fits : IsCodable (store_length w.history) e) where
        all_fit : AreCodable 0 (w.history ++ e ∷ [])
        all_fit = codable-at w.history e (store_length w.history) refl standing.stand.codable fits

        pub may_next : IsHistory id_of (w.history ++ e ∷ [])
        may_next = may-push id_of empty_archive w.history e k.history may

        -- at each call of the event
        pub stands_at : (n : ℕ) → EachImages (files_on (called (take n (calls_for w.history e)) w.disks)) (WithOrWithout w.history e)
        stands_at n =
            called_left (take n (calls_for w.history e)) w.disks (WithOrWithout w.history e) (all_take (λ c. c.0 < 2) n (calls_for w.history e) (calls_on_two w.history e))
            ((one_moments (files_on w.disks) w.history standing e all_fit).has n)

        abbrev after : Files
        after = files_done (calls_for w.history e) (files_on w.disks)

        added : AreStanding (after 0) (after 1) (w.history ++ e ∷ [])
        added = one_added (files_on w.disks) w.history standing e all_fit

        pub joined_kept : IsWorld id_of (joined e w)
        joined_kept = record {
          history = may_next;
          shown = let l = k.shown in omega (arith, l, length-append w.history (e ∷ []));
          kept = subst (IsFront w.kept) (sym (take-append-le w.shown w.history (e ∷ []) k.shown)) k.kept;
          seen = k.seen;
          images = subst (λ (d : Option Event). EachImages (files_on (called (calls_for w.history e) w.disks)) (MayStand (w.history ++ e ∷ []) d)) (sym none)
              (called_left (calls_for w.history e) w.disks (λ images. StandsFor (images 0) (images 1) (w.history ++ e ∷ [])) (calls_on_two w.history e) (still after (w.history ++ e ∷ []) added));
          rests = λ _. record {
            ledger = record { base = added.ledger_rests.base; ranges = added.ledger_rests.ranges; longest = added.ledger_rests.longest };
            store = record { base = added.store_rests.base; ranges = added.store_rests.ranges; longest = added.store_rests.longest };
          };
          doubt = λ d is. absurd (let f : None ≡ Some d = sym none ∙ is in cc);
        }

        pub joined_later : IsLater w (joined e w)
        joined_later = record { history = front_of_more w.history e; kept = front_itself w.kept; actors = refl }

        pub doubt_later : (number : ℕ) → IsLater w (in_doubt e number w)
        doubt_later number = record { history = front_itself w.history; kept = front_itself w.kept; actors = refl }

        pub doubt_kept : (number : ℕ) → IsWorld id_of (in_doubt e number w)
        doubt_kept number = record {
          history = k.history;
          shown = k.shown;
          kept = k.kept;
          seen = k.seen;
          images = failed_left number (calls_for w.history e) w.disks (WithOrWithout w.history e) (calls_on_two w.history e) (one_moments (files_on w.disks) w.history standing e all_fit);
          rests = λ other. absurd (let f : Some e ≡ None = other in cc);
          doubt = λ d is. subst (May id_of (replay w.history)) (let f : Some e ≡ Some d = is in let same : e ≡ d = cc in same) may;
        }

    -- two files stand for one history
    pub one_for : (g h : List Event) (ledger store : List ℕ) → IsHistory id_of g → IsHistory id_of h → StandsFor ledger store g → StandsFor ledger store h → g ≡ h
    one_for g h ledger store hg hh sg sh = one_history id_of g h (alike ledger store g h sg sh) hg hh

    -- images that may stand for the history, or for it with an event that may be next, stand for no shorter one
    pub front_of_stood : (more : Option Event) (h : List Event) (ledger store : List ℕ) → ((e : Event) → more ≡ Some e → May id_of (replay w.history) e) → MayStand w.history more (two_images ledger store) → StandsFor ledger store h → IsHistory id_of h → IsFront w.history h
    front_of_stood None h ledger store may stands is history = subst (IsFront w.history) (one_for w.history h ledger store k.history history stands is) (front_itself w.history)
    front_of_stood (Some e) h ledger store may (inl without) is history = subst (IsFront w.history) (one_for w.history h ledger store k.history history without is) (front_itself w.history)
    front_of_stood (Some e) h ledger store may (inr with_it) is history =
        subst (IsFront w.history) (one_for (w.history ++ e ∷ []) h ledger store (may-push id_of empty_archive w.history e k.history (may e refl)) history with_it is) (front_of_more w.history e)

    module _ (h : List Event) (ledger store : List ℕ) (front : IsFront w.history h) (history : IsHistory id_of h) (stands : StandsFor ledger store h) where
      kept_there : IsFront w.kept h
      kept_there = front_then w.kept w.history h kept_in front

      pub reopened_kept : IsWorld id_of (reopened h ledger store w)
      reopened_kept =
          let one : longer w.kept h ≡ h = longer_whole w.kept h kept_there in
          record {
            history = history;
            shown = omega arith;
            kept = subst (λ (l : List Event). IsFront l (take (length h) h)) (sym one) (subst (IsFront h) (sym (whole_taken h)) (front_itself h));
            seen = subst (λ (l : List Event). AllByRecursion (λ (f : List Event). IsFront f l) (map (λ _. h) w.seen)) (sym one) (all_same (λ (f : List Event). IsFront f h) w.seen h (front_itself h));
            images = still (files_on (rested ledger store)) h (rested_standing h ledger store stands);
            rests = λ _. record { ledger = record { base = refl; ranges = refl; longest = refl }; store = record { base = refl; ranges = refl; longest = refl } };
            doubt = λ d is. absurd (let f : None ≡ Some d = is in cc);
          }

      pub reopened_later : IsLater w (reopened h ledger store w)
      reopened_later = record {
        history = front;
        kept = subst (IsFront w.kept) (sym (longer_whole w.kept h kept_there)) kept_there;
        actors = length-map w.seen (λ _. h);
      }
