-- What the device calls and crashes of this program leave of the two files.
use Rattle.std.proofs.Common.{◌≡◌, ◌≢◌, ◌⊎◌, inl, inr, ⊎_elim, ℕ, zero, suc, ◌<◌, ◌≤◌, Option, Some, None, List, [], ◌∷◌, ◌++◌, length, get_or, take, refl, sym, ap, ◌∙◌, subst, arith}
use Rattle.std.proofs.lemmas.Bool.{cases_eq, cases_lt}
use Rattle.swh_base.specs.declared.kind.Kind.{Kind}
use Rattle.swh_outside.specs.Disk.{File, Sync, IsImage, done}
use Rattle.swh_outside.specs.Files.{Files, Images, AreImages, EachImages, EachFilesMoment, on, with_file, files_of, files_done}
use Rattle.swh_outside.proofs.Images.{at_rest_image, at_rest_done}
use Rattle.swh_outside.proofs.Numbered.{files_moments_then, files_left_by, files_left_whole, with_file_here, with_file_other}
use Rattle.swh_model.specs.declared.event.Event.{Event}
use Rattle.swh_model.specs.Step.{IsHistory}
use Rattle.swh_model.specs.Archive.{empty_archive}
use Rattle.swh_model.proofs.Histories.{fronts}
use Rattle.swh_format.specs.Record.{Stands}
use Rattle.swh_format.specs.EventRecord.{AreCodable}
use Rattle.swh_segment.specs.Making.{IsMade, IsNotMade, IsNotMadeOrEmpty, needs_clearing, magic_calls, barriers, making_calls}
use Rattle.swh_segment.specs.Settled.{seen_of}
use Rattle.swh_segment.proofs.Crash.{on_ledger}
use Rattle.swh_segment.proofs.Barriers.{both_images}
use Rattle.swh_segment.specs.Standing.{WithOrWithout, AreStanding}
use Rattle.swh_segment.specs.Calls.{calls_for}
use Rattle.swh_keeper.specs.declared.opening.OpenWhy.{OpenWhy}
use Rattle.swh_keeper.specs.declared.opening.OpenWhy.TheVariants.{Made, NotMade, Damaged, DiskFault, Memory}
use Rattle.swh_keeper.specs.Kept.{Kept, MayHoldOneMore, IsKept}
use Rattle.swh_keeper.specs.Opening.{IsDamaged, IsLeftOfMaking, IsLeftFor}
use Rattle.swh_keeper.specs.Damage.{IfDamagedAt, IsDamagedAt}
use Rattle.swh_keeper.specs.Own.{IsUnwritten, StandForHistory, AreUsable, AreOwn}
use Rattle.swh_keeper.proofs.DamageLemmas.{damage_is_damaged, damaged_map}
use Rattle.swh_keeper.proofs.KeptLemmas.{history-push}
use Rattle.swh_segment.proofs.Standings.{one_moments, still}

made_or_not : (bytes : List ℕ) → IsMade bytes → IsNotMade bytes → ⊥
made_or_not bytes made (inl short) = omega (arith, made.0, short)
made_or_not bytes made (inr other) = other made.1

made_is_decided : (bytes : List ℕ) → IsMade bytes ⊎ IsNotMade bytes
made_is_decided bytes = ⊎_elim
    (λ (short : length bytes < 9). inr (inl short))
    (λ (long : 9 ≤ length bytes). ⊎_elim (λ (first : get_or bytes 0 0 ≡ 83). inl (long, first)) (λ (other : get_or bytes 0 0 ≢ 83). inr (inr other)) (cases_eq (get_or bytes 0 0) 83))
    (cases_lt (length bytes) 9)

-- an image after a barrier on a file is one as before it
synced : (n : ℕ) (files : Files) (images : Images) → IsImage (files n) (files n).seen → AreImages (with_file n (done Sync (files n)) files) images → AreImages files images
synced n files images seen are = record {
  each = λ k. ⊎_elim
      (λ (here : k ≡ n).
      let at : IsImage (done Sync (files n)) (images n) = subst (λ (f : File). IsImage f (images n)) (with_file_here n (done Sync (files n)) files) (are.each n) in
      let same : images n ≡ (files n).seen = at_rest_image (done Sync (files n)) (images n) (at_rest_done (files n)) at in
      subst (λ (j : ℕ). IsImage (files j) (images j)) (sym here) (subst (IsImage (files n)) (sym same) seen))
      (λ (other : k ≢ n). subst (λ (f : File). IsImage f (images k)) (with_file_other n (done Sync (files n)) files k other) (are.each k))
      (cases_eq k n);
}

module _ (id_of : Kind → List ℕ → List ℕ) where
  empty_stands : (images : Images) → Stands (images 0) [] → StandForHistory id_of images
  empty_stands images stands = record {
    events = [];
    history = tt;
    stand = record { files = record { ledger_stands = stands; rest = images 1; store_begins = refl }; codable = tt };
  }

  usable : (images : Images) → IsNotMadeOrEmpty images → AreUsable id_of images
  usable images (inl not_made) = inl not_made
  usable images (inr stands) = inr (empty_stands images stands)

  pub not_damaged : (images : Images) → AreUsable id_of images → IsDamaged id_of (images 0) (images 1) → ⊥
  not_damaged images (inl not_made) damaged = made_or_not (images 0) damaged.made not_made
  not_damaged images (inr s) damaged = damaged.none s.events s.stand s.history

  module _ (files : Files) where
    pub unwritten_own : IsUnwritten (files 0) → AreImages files (seen_of files) → AreOwn id_of files
    unwritten_own unwritten seen = record {
      seen = seen;
      each = record {
        has = λ images are.
            let none : images 0 ≡ [] = at_rest_image (files 0) (images 0) unwritten.rests (are.each 0) ∙ unwritten.no_bytes in
            let short : length (images 0) < 9 = omega (arith, ap length none) in
            inl (inl short);
      };
    }

    module _ (own : AreOwn id_of files) where
      -- once a barrier was made on the first of them, or on both
      after_one : EachImages (files_done ((1, Sync) ∷ []) files) (AreUsable id_of)
      after_one = record { has = λ images are. own.each.has images (synced 1 files images (own.seen.each 1) are) }

      after_both : EachImages (files_done barriers files) (AreUsable id_of)
      after_both = record {
        has = λ images are. own.each.has images (synced 1 files images (own.seen.each 1) (synced 0 (files_done ((1, Sync) ∷ []) files) images (own.seen.each 0) are));
      }

      pub opening_moments : EachFilesMoment barriers files (AreUsable id_of)
      opening_moments = record { has = moments }
        where
          moments : (n : ℕ) → EachImages (files_done (take n barriers) files) (AreUsable id_of)
          moments zero = own.each
          moments (suc zero) = after_one
          moments (suc (suc zero)) = after_both
          moments (suc (suc (suc n))) = after_both

      pub making_moments : IsNotMade (files 0).seen → EachFilesMoment (making_calls (files 0).seen) files (AreUsable id_of)
      making_moments not_made =
          let later = on_ledger files not_made in
          files_moments_then barriers (on 0 (magic_calls (needs_clearing (files 0).seen))) files (AreUsable id_of) opening_moments
          (record { has = λ n. record { has = λ images are. usable images ((later.has n).has images are) } })

    -- at each call of an event that may happen after a history
    pub event_moments_own : (h : List Event) (e : Event) → AreStanding (files 0) (files 1) h → AreCodable 0 (h ++ e ∷ []) → IsHistory id_of (h ++ e ∷ []) → EachFilesMoment (calls_for h e) files (AreUsable id_of)
    event_moments_own h e standing codable history =
        let each = one_moments files h standing e codable in
        record { has = λ n. record { has = λ images are. by_event images ((each.has n).has images are) } }
      where
        by_event : (images : Images) → WithOrWithout h e images → AreUsable id_of images
        by_event images (inl without) = inr (record { events = h; history = (fronts id_of empty_archive h (e ∷ []) history).0; stand = without })
        by_event images (inr with_it) = inr (record { events = h ++ e ∷ []; history = history; stand = with_it })

  -- what an opening leaves that does not succeed, and that it finds no damage
  module _ (files : Files) (own : AreOwn id_of files) where
    pub opening_leaves_own : (why : OpenWhy) (new : Files) → AreImages new (seen_of new) → IsLeftFor why files new → AreOwn id_of new
    opening_leaves_own why new seen left = record { seen = seen; each = by_why why left }
      where
        whole : new ≡ files_done barriers files → EachImages new (AreUsable id_of)
        whole is = files_left_whole barriers files new (AreUsable id_of) (opening_moments files own) is

        by_why : (w : OpenWhy) → IsLeftFor w files new → EachImages new (AreUsable id_of)
        by_why Made l = whole l
        by_why NotMade l = whole l
        by_why (Damaged file at harm) l = whole l
        by_why DiskFault (inl breaks) = files_left_by barriers files new (AreUsable id_of) (opening_moments files own) breaks
        by_why DiskFault (inr is) = whole is
        by_why Memory l = whole l

    pub no_damage : (why : OpenWhy) → IfDamagedAt why (IsDamagedAt id_of (files 0).seen (files 1).seen) → IfDamagedAt why (λ file at harm. ⊥)
    no_damage why damaged = damaged_map why (IsDamagedAt id_of (files 0).seen (files 1).seen) (λ file at harm. ⊥)
        (λ file at harm d. not_damaged (seen_of files) (own.each.has (seen_of files) own.seen) (damage_is_damaged id_of (files 0).seen (files 1).seen file at harm d)) damaged

    -- what a making leaves that does not succeed; a made archive is as it was
    pub making_leaves_own : (why : OpenWhy) (new : Files) → AreImages new (seen_of new) → IsLeftOfMaking why files new → (IsMade (files 0).seen → new ≡ files) → AreOwn id_of new
    making_leaves_own why new seen left spared = by_why why left
      where
        same : new ≡ files → AreOwn id_of new
        same is = subst (AreOwn id_of) (sym is) own

        by_why : (w : OpenWhy) → IsLeftOfMaking w files new → AreOwn id_of new
        by_why Made l = same l
        by_why NotMade l = absurd l
        by_why (Damaged file at harm) l = absurd l
        by_why DiskFault (inl is) = same is
        by_why DiskFault (inr breaks) = ⊎_elim
            (λ (made : IsMade (files 0).seen). same (spared made))
            (λ (not_made : IsNotMade (files 0).seen). record { seen = seen; each = files_left_by (making_calls (files 0).seen) files new (AreUsable id_of) (making_moments files own not_made) breaks })
            (made_is_decided (files 0).seen)
        by_why Memory l = absurd l

  -- the files of a keeper are so, whatever it was opened with
  pub kept_own : {D : Type 0} (tells : Type 0) (file : D → File) (k : Kept D) → ((disk : D) → tells → IsImage (file disk) (file disk).seen) → tells → IsKept id_of tells file k → AreOwn id_of (files_of (file k.ledger) (file k.store))
  kept_own tells file k sees told kept = record { seen = both_images (file k.ledger) (file k.store) (file k.ledger) (file k.store) (sees k.ledger told) (sees k.store told); each = by_wound k.wounded refl }
    where
      with_more : (d : MayHoldOneMore id_of (file k.ledger) (file k.store) k.history) → EachImages (files_of (file k.ledger) (file k.store)) (AreUsable id_of)
      with_more d = record {
        has = λ images are. elim (d.each.has images are) [
          | inl without ↦ inr (record { events = k.history; history = kept.history; stand = without })
          | inr with_it ↦ inr (record { events = k.history ++ d.event ∷ []; history = history-push id_of empty_archive k.history d.event kept.history d.may; stand = with_it })
        ];
      }

      by_wound : (w : Option ℕ) → k.wounded ≡ w → EachImages (files_of (file k.ledger) (file k.store)) (AreUsable id_of)
      by_wound None is = record { has = λ images are. inr (record { events = k.history; history = kept.history; stand = (still (files_of (file k.ledger) (file k.store)) k.history (kept.standing is told)).has images are }) }
      by_wound (Some n) is = with_more (kept.doubt n is told)
