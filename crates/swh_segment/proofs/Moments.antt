-- What a crash leaves at the device calls of events that are added one after another.
use Rattle.std.proofs.Common.{◌≡◌, ◌≢◌, inl, inr, ⊎_elim, ℕ, zero, suc, ◌+◌, ◌-◌, ◌<◌, ◌≤◌, Bool, List, [], ◌∷◌, ◌++◌, length, take, refl, sym, ap, ◌∙◌, subst, arith, append_assoc}
use Rattle.std.specs.Prelude.{if◌then◌else◌}
use Rattle.std.proofs.lemmas.Bool.{cases_lt, cases_eq, le-leb, lt-leb}
use Rattle.std.proofs.lemmas.List.{append-nil, take-append-le}
use Rattle.swh_base.specs.declared.kind.Kind.{Kind}
use Rattle.swh_outside.specs.Disk.{File, Sync, IsImage, done}
use Rattle.swh_outside.specs.Files.{Files, FileCall, Images, AreImages, EachImages, EachFilesMoment, file_done, files_done}
use Rattle.swh_outside.proofs.Images.{at_rest_image, at_rest_done}
use Rattle.swh_outside.proofs.Numbered.{files_done-append, take_long, with_file_here, with_file_other}
use Rattle.swh_model.specs.declared.event.Event.{Event}
use Rattle.swh_format.specs.EventRecord.{packed_objects, AreCodable}
use Rattle.swh_segment.specs.Making.{barriers}
use Rattle.swh_segment.specs.Settled.{seen_of}
use Rattle.swh_format.specs.Stands.{StandsFor}
use Rattle.swh_segment.specs.Calls.{calls_for, all_calls}
use Rattle.swh_segment.specs.Standing.{AreStanding, WithOrWithout}
use Rattle.swh_segment.specs.Moments.{BreaksAtEvent, acknowledged, FrontStands, EachFrontMoment, IsSafelyMade, IsSafelyBroken, IsSafeOpening}
use Rattle.swh_segment.proofs.Standings.{still, one_moments, event_left, one_added}

pub codable_front : (at : ℕ) (h more : List Event) → AreCodable at (h ++ more) → AreCodable at h
codable_front at [] more fits = tt
codable_front at (e ∷ h) more fits = (fits.0, codable_front (at + length (packed_objects e.what)) h more fits.1)

-- the calls of events, and then of more events
pub all_calls-append : (h xs ys : List Event) → all_calls h (xs ++ ys) ≡ all_calls h xs ++ all_calls (h ++ xs) ys
all_calls-append h [] ys = ap (λ (t : List Event). all_calls t ys) (sym (append-nil h))
all_calls-append h (x ∷ xs) ys =
    ap (λ (plan : List FileCall). calls_for h x ++ plan)
    (all_calls-append (h ++ x ∷ []) xs ys ∙ ap (λ (t : List Event). all_calls (h ++ x ∷ []) xs ++ all_calls t ys) (append_assoc h (x ∷ []) xs))
    ∙ sym (append_assoc (calls_for h x) (all_calls (h ++ x ∷ []) xs) (all_calls (h ++ x ∷ xs) ys))

-- Where the first event's calls are all among the first n, it is acknowledged, and else nothing is.
counted : (h more : List Event) (e : Event) (n : ℕ) → length (calls_for h e) ≤ n → acknowledged h (e ∷ more) n ≡ 1 + acknowledged (h ++ e ∷ []) more (n - length (calls_for h e))
counted h more e n le = ap (λ (b : Bool). if b then 1 + acknowledged (h ++ e ∷ []) more (n - length (calls_for h e)) else 0) (le-leb (length (calls_for h e)) n le)

not_counted : (h more : List Event) (e : Event) (n : ℕ) → n < length (calls_for h e) → acknowledged h (e ∷ more) n ≡ 0
not_counted h more e n lt = ap (λ (b : Bool). if b then 1 + acknowledged (h ++ e ∷ []) more (n - length (calls_for h e)) else 0) (lt-leb (length (calls_for h e)) n lt)

-- a front of what comes after the first event, with that event
longer : (h more : List Event) (e : Event) (n : ℕ) (images : Images) → length (calls_for h e) ≤ n → FrontStands (h ++ e ∷ []) more (n - length (calls_for h e)) images → FrontStands h (e ∷ more) n images
longer h more e n images le f =
    let count = counted h more e n le in
    record {
      front = e ∷ f.front;
      rest = f.rest;
      cut = ap (λ (l : List Event). e ∷ l) f.cut;
      none_lost = let k = f.none_lost in omega (arith, count, k);
      one_more = let k = f.one_more in omega (arith, count, k);
      stands = subst (StandsFor (images 0) (images 1)) (append_assoc h (e ∷ []) f.front) f.stands;
    }

-- before all of its calls are made it is there, or not
first_only : (h more : List Event) (e : Event) (n : ℕ) (images : Images) → n < length (calls_for h e) → WithOrWithout h e images → FrontStands h (e ∷ more) n images
first_only h more e n images lt (inl without) =
    let count = not_counted h more e n lt in
    record {
      front = [];
      rest = e ∷ more;
      cut = refl;
      none_lost = omega (arith, count);
      one_more = omega (arith, count);
      stands = subst (StandsFor (images 0) (images 1)) (sym (append-nil h)) without;
    }
first_only h more e n images lt (inr with_it) =
    let count = not_counted h more e n lt in
    record {
      front = e ∷ [];
      rest = more;
      cut = refl;
      none_lost = omega (arith, count);
      one_more = omega (arith, count);
      stands = with_it;
    }

abbrev no_calls : List FileCall
no_calls = []

take_none : (n : ℕ) → take n no_calls ≡ no_calls
take_none zero = refl
take_none (suc n) = refl

codable_next : (h more : List Event) (e : Event) → AreCodable 0 (h ++ e ∷ more) → AreCodable 0 ((h ++ e ∷ []) ++ more)
codable_next h more e fits = subst (AreCodable 0) (sym (append_assoc h (e ∷ []) more)) fits

-- After all calls of the events both files stand for the history with them.
pub all_added : (more h : List Event) (files : Files) → AreStanding (files 0) (files 1) h → AreCodable 0 (h ++ more) → AreStanding (files_done (all_calls h more) files 0) (files_done (all_calls h more) files 1) (h ++ more)
all_added [] h files standing fits = subst (AreStanding (files 0) (files 1)) (sym (append-nil h)) standing
all_added (e ∷ more) h files standing fits =
    let next = codable_next h more e fits in
    let one = one_added files h standing e (codable_front 0 (h ++ e ∷ []) more next) in
    let all = all_added more (h ++ e ∷ []) (files_done (calls_for h e) files) one next in
    let there = files_done-append (calls_for h e) (all_calls (h ++ e ∷ []) more) files in
    subst (λ (f : Files). AreStanding (f 0) (f 1) (h ++ e ∷ more)) (sym there)
    (subst (AreStanding (files_done (all_calls (h ++ e ∷ []) more) (files_done (calls_for h e) files) 0) (files_done (all_calls (h ++ e ∷ []) more) (files_done (calls_for h e) files) 1)) (append_assoc h (e ∷ []) more) all)

-- At each of their calls a crash leaves a front of them, with all that was acknowledged.
pub all_moments : (more h : List Event) (files : Files) → AreStanding (files 0) (files 1) h → AreCodable 0 (h ++ more) → EachFrontMoment h more files
all_moments [] h files standing fits = record {
  has = λ n. record {
    has = λ images are.
        let was = subst (λ (plan : List FileCall). AreImages (files_done plan files) images) (take_none n) are in
        record {
          front = [];
          rest = [];
          cut = refl;
          none_lost = omega arith;
          one_more = omega arith;
          stands = subst (StandsFor (images 0) (images 1)) (sym (append-nil h)) ((still files h standing).has images was);
        };
  };
}
all_moments (e ∷ more) h files standing fits =
    let next = codable_next h more e fits in
    let one_fits = codable_front 0 (h ++ e ∷ []) more next in
    let one = one_moments files h standing e one_fits in
    let later = all_moments more (h ++ e ∷ []) (files_done (calls_for h e) files) (one_added files h standing e one_fits) next in
    let calls = calls_for h e in
    let plan = all_calls (h ++ e ∷ []) more in
    record {
      has = λ n. record {
        has = λ images are. ⊎_elim
            (λ (lt : n < length calls).
            let le : n ≤ length calls = omega arith in
            let was = subst (λ (p : List FileCall). AreImages (files_done p files) images) (take-append-le n calls plan le) are in
            first_only h more e n images lt ((one.has n).has images was))
            (λ (ge : length calls ≤ n).
            let was = subst (λ (f : Files). AreImages f images) (ap (λ (p : List FileCall). files_done p files) (take_long calls plan n ge) ∙ files_done-append calls (take (n - length calls) plan) files) are in
            longer h more e n images ge ((later.has (n - length calls)).has images was))
            (cases_lt n (length calls));
      };
    }

-- and after all of them, all of them
pub safely_made : (more h : List Event) (old new : Files) → AreStanding (old 0) (old 1) h → AreCodable 0 (h ++ more) → new ≡ files_done (all_calls h more) old → IsSafelyMade h more old new
safely_made more h old new standing fits is = record {
  made = is;
  moments = all_moments more h old standing fits;
  left = subst (λ (f : Files). EachImages f (λ images. StandsFor (images 0) (images 1) (h ++ more))) (sym is) (still (files_done (all_calls h more) old) (h ++ more) (all_added more h old standing fits));
}

-- and where a call of the next event failed, with it or without
pub safely_broken : (id : Kind → List ℕ → List ℕ) (IsNext : Event → Type 0) (more h : List Event) (old new : Files) → AreStanding (old 0) (old 1) h → (b : BreaksAtEvent id IsNext (h ++ more) (files_done (all_calls h more) old) new)
    → IsSafelyBroken id IsNext h more old new
safely_broken id IsNext more h old new standing b = record {
  breaks = b;
  moments = all_moments (more ++ b.event ∷ []) h old standing (subst (AreCodable 0) (append_assoc h more (b.event ∷ [])) b.codable);
  left = event_left (files_done (all_calls h more) old) (h ++ more) (all_added more h old standing (codable_front 0 (h ++ more) (b.event ∷ []) b.codable)) b.event b.codable new b.breaks;
}

-- A barrier leaves what is read, which a crash might have left before.
rest_image : (file : File) → IsImage (done Sync file) file.seen
rest_image file = record { stays = λ k h out. refl; no_shorter = omega arith; no_longer = omega arith }

abbrev SeesImages : Files → Type 0
SeesImages files = AreImages files (seen_of files)

module _ (n : ℕ) (files : Files) (sees : SeesImages files) where
  synced_image : (k : ℕ) (image : List ℕ) → IsImage (file_done (n, Sync) files k) image → IsImage (files k) image
  synced_image k image i = ⊎_elim
      (λ (here : k ≡ n).
      let is : file_done (n, Sync) files k ≡ done Sync (files k) = ap (file_done (n, Sync) files) here ∙ with_file_here n (done Sync (files n)) files ∙ ap (λ (j : ℕ). done Sync (files j)) (sym here) in
      let same : image ≡ (files k).seen = at_rest_image (done Sync (files k)) image (at_rest_done (files k)) (subst (λ (f : File). IsImage f image) is i) in
      subst (IsImage (files k)) (sym same) (sees.each k))
      (λ (other : k ≢ n). subst (λ (f : File). IsImage f image) (with_file_other n (done Sync (files n)) files k other) i)
      (cases_eq k n)

  synced_images : (images : Images) → AreImages (file_done (n, Sync) files) images → AreImages files images
  synced_images images are = record { each = λ k. synced_image k (images k) (are.each k) }

  synced_sees : SeesImages (file_done (n, Sync) files)
  synced_sees = record {
    each = λ k. ⊎_elim
        (λ (here : k ≡ n).
        let is : file_done (n, Sync) files k ≡ done Sync (files k) = ap (file_done (n, Sync) files) here ∙ with_file_here n (done Sync (files n)) files ∙ ap (λ (j : ℕ). done Sync (files j)) (sym here) in
        subst (λ (f : File). IsImage f f.seen) (sym is) (rest_image (files k)))
        (λ (other : k ≢ n). subst (λ (f : File). IsImage f f.seen) (sym (with_file_other n (done Sync (files n)) files k other)) (sees.each k))
        (cases_eq k n);
  }

module _ (files : Files) (sees : SeesImages files) where
  pub opening_images : EachFilesMoment barriers files (AreImages files)
  opening_images = record { has = each }
    where
      each : (n : ℕ) → EachImages (files_done (take n barriers) files) (AreImages files)
      each zero = record { has = λ images are. are }
      each (suc zero) = record { has = λ images are. synced_images 1 files sees images are }
      each (suc (suc n)) = record {
        has = λ images are. synced_images 1 files sees images (synced_images 0 (file_done (1, Sync) files) (synced_sees 1 files sees) images
            (subst (λ (plan : List FileCall). AreImages (files_done plan (file_done (0, Sync) (file_done (1, Sync) files))) images) (take_none n) are));
      }

  pub safe_opening : (h : List Event) → StandsFor (files 0).seen (files 1).seen h → IsSafeOpening h files
  safe_opening h stand = record {
    no_others = opening_images;
    rested = λ rest. record {
      has = λ n. record {
        has = λ images are. (still files h (record { ledger_rests = rest.ledger; store_rests = rest.store; stand = stand })).has images ((opening_images.has n).has images are);
      };
    };
  }

-- Once both barriers are made the files stand for what is read of them.
pub opened_standing : (files : Files) (h : List Event) → StandsFor (files 0).seen (files 1).seen h → AreStanding (files_done barriers files 0) (files_done barriers files 1) h
opened_standing files h stand = record { ledger_rests = at_rest_done (files 0); store_rests = at_rest_done (files 1); stand = stand }
