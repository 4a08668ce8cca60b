-- Own files through a run.
use Rattle.std.proofs.Common.{◌≡◌, inl, inr, ℕ, ◌<◌, List, [], ◌++◌, length, get_or, refl, sym, ap, ◌∙◌, subst, arith, append_assoc}
use Rattle.swh_base.specs.declared.kind.Kind.{Kind}
use Rattle.swh_outside.specs.Disk.{File, IsImage, IsAtRest}
use Rattle.swh_outside.specs.Files.{Files, Images, AreImages, EachFilesMoment, files_done}
use Rattle.swh_outside.proofs.Images.{at_rest_image}
use Rattle.swh_outside.proofs.Numbered.{files_moments_then}
use Rattle.swh_format.specs.Record.{Stands}
use Rattle.swh_model.specs.Archive.{empty_archive}
use Rattle.swh_model.specs.declared.event.Event.{Event}
use Rattle.swh_model.specs.Step.{IsHistory}
use Rattle.swh_model.proofs.Histories.{fronts}
use Rattle.swh_segment.specs.Making.{IsMade, IsNotMade, IsEmptyArchive, barriers}
use Rattle.swh_segment.specs.Settled.{seen_of}
use Rattle.swh_keeper.specs.Own.{AreUsable, AreOwn}
use Rattle.swh_keeper.specs.declared.opening.OpenWhy.TheVariants as why
use Rattle.swh_keeper.proofs.OwnLemmas.{not_damaged, opening_moments, making_leaves_own}
use Rattle.swh_segment.specs.Calls.{all_calls}
use Rattle.swh_segment.specs.Moments.{EachFrontMoment}
use Rattle.swh_exit.specs.Answers.{status_of}
use Rattle.swh_exit.specs.Damage.{IsUndamaged}
use Rattle.swh_program.specs.InitCommand.{InitEnds}
use Rattle.swh_program.specs.Jobs.{IsJobRefusal}
use Rattle.swh_exit.specs.Opening.{IsUnusable}
use Rattle.swh_exit.specs.Own.{HasOpened, AreAfterCrash, KeepsOwn, EndsOwn}
use Rattle.swh_exit.specs.Run.{IsExactly, IsTold}
use Rattle.swh_exit.specs.Seen.{Span}
use Rattle.swh_exit.specs.declared.answer.Answer.{Answer}
use Rattle.swh_exit.specs.declared.answer.Answer.TheVariants.{Made, Told, Words, NoJobFile, BadJob, AlreadyMade, NotMade, Damaged, OutsideDisk, OutsideSource, OutsideFolder, OutsideYard, OutsideClock, Memory}
use Rattle.swh_exit.proofs.Owned.{keeps_same}
use Rattle.swh_program.proofs.Statuses.{uncut}

-- what a read gives of a file at rest is its one image
at_rest_sees : (file : File) → IsAtRest file → IsImage file file.seen
at_rest_sees file rests = record {
  stays = λ k h out. ap (λ (b : List ℕ). get_or b k 0) (sym rests.base);
  no_shorter = omega (arith, ap length rests.base);
  no_longer = omega (arith, rests.longest);
}

same_images : (left : Files) (images others : Images) → AreAfterCrash images left → AreImages left others → others ≡ images
same_images left images others after are = all (λ k. at_rest_image (left k) (others k) (after.rest k) (are.each k) ∙ after.seen k)
  where
    all : ((k : ℕ) → others k ≡ images k) → others ≡ images
    all same = λ i k. same k i

-- what a crash leaves that is not made, or stands for a history, is own
pub own_after_crash : (id_of : Kind → List ℕ → List ℕ) (images : Images) (left : Files) → AreUsable id_of images → AreAfterCrash images left → AreOwn id_of left
own_after_crash id_of images left usable after = record {
  seen = record { each = λ k. at_rest_sees (left k) (after.rest k) };
  each = record { has = λ others are. subst (AreUsable id_of) (sym (same_images left images others after are)) usable };
}

-- a read sees images of files that are given back as they were
pub sees_at : (taken new : Files) → new ≡ taken → AreImages taken (seen_of taken) → AreImages new (seen_of new)
sees_at taken new is sees = subst (λ (f : Files). AreImages f (seen_of f)) (sym is) sees

-- an answer below 2 comes of an archive that was made or opened
low_opened : (answer : Answer) → status_of answer < 2 → HasOpened answer
low_opened Made less = tt
low_opened (Told text end) less = tt
low_opened Words less = absurd (omega (arith, less))
low_opened NoJobFile less = absurd (omega (arith, less))
low_opened (BadJob text) less = absurd (omega (arith, less))
low_opened AlreadyMade less = absurd (omega (arith, less))
low_opened NotMade less = absurd (omega (arith, less))
low_opened (Damaged text) less = absurd (omega (arith, less))
low_opened OutsideDisk less = absurd (omega (arith, less))
low_opened OutsideSource less = absurd (omega (arith, less))
low_opened OutsideFolder less = absurd (omega (arith, less))
low_opened OutsideYard less = absurd (omega (arith, less))
low_opened OutsideClock less = tt
low_opened Memory less = absurd (omega (arith, less))

module _ (id_of : Kind → List ℕ → List ℕ) where
  empty_own : (new : Files) → IsEmptyArchive new → AreImages new (seen_of new) → AreOwn id_of new
  empty_own new empty sees = record {
    seen = sees;
    each = record {
      has = λ images are.
          let same : images 0 ≡ (new 0).seen = at_rest_image (new 0) (images 0) empty.ledger.rests (are.each 0) in
          let stands : Stands (images 0) [] = subst (λ (b : List ℕ). Stands b []) (sym same) empty.ledger.stands in
          inr (record { events = []; history = tt; stand = record { files = record { ledger_stands = stands; rest = images 1; store_begins = refl }; codable = tt } });
    };
  }

  -- own files can be used unless they are not made
  unusable_own : (files : Files) → AreOwn id_of files → IsUnusable id_of files → IsNotMade (files 0).seen
  unusable_own files own (inl not_made) = not_made
  unusable_own files own (inr damaged) =
      absurd (not_damaged id_of (seen_of files) (own.each.has (seen_of files) own.seen) (record { made = damaged.made; none = λ h stand is. damaged.none h (record { stand = stand; history = is }) }))

  pub exactly_not_made : (files : Files) (status : ℕ) → AreOwn id_of files → IsExactly 3 (IsUnusable id_of files) status → IsExactly 3 (IsNotMade (files 0).seen) status
  exactly_not_made files status own exact = record { only = λ e. unusable_own files own (exact.only e); there = λ not_made. exact.there (inl not_made) }

  pub exactly_not_made_with : (P : Type 0) (files : Files) (status : ℕ) → AreOwn id_of files → IsExactly 3 (P × IsUnusable id_of files) status → IsExactly 3 (P × IsNotMade (files 0).seen) status
  exactly_not_made_with P files status own exact = record {
    only = λ e. let both = exact.only e in (both.0, unusable_own files own both.1);
    there = λ both. exact.there (both.0, inl both.1);
  }

  -- at the calls of events that are added to a history
  events_moments : (h more : List Event) (files : Files) → IsHistory id_of (h ++ more) → EachFrontMoment h more files → EachFilesMoment (all_calls h more) files (AreUsable id_of)
  events_moments h more files history each = record {
    has = λ n. record {
      has = λ images are.
          let f = (each.has n).has images are in
          let cut : h ++ more ≡ (h ++ f.front) ++ f.rest = ap (λ (l : List Event). h ++ l) f.cut ∙ sym (append_assoc h f.front f.rest) in
          inr (record { events = h ++ f.front; history = (fronts id_of empty_archive (h ++ f.front) f.rest (subst (IsHistory id_of) cut history)).0; stand = f.stands });
    };
  }

  pub load_moments : (old : Files) (h more : List Event) → AreOwn id_of old → IsHistory id_of (h ++ more) → EachFrontMoment h more (files_done barriers old)
      → EachFilesMoment (barriers ++ all_calls h more) old (AreUsable id_of)
  load_moments old h more own history each =
      files_moments_then barriers (all_calls h more) old (AreUsable id_of) (opening_moments id_of old own) (events_moments h more (files_done barriers old) history each)

  module _ (old new : Files) where
    -- files that are own at the end
    pub keeps_by_end : (answer : Answer) → IsUndamaged answer → AreOwn id_of new → KeepsOwn id_of old new answer
    keeps_by_end answer undamaged own = record { undamaged = λ _. undamaged; own = λ _. own; opened = λ _. own; opening = opening_moments id_of old }

    -- a job file that was refused, before the archive was opened
    pub keeps_no_jobs : (answer : Answer) → new ≡ old → IsJobRefusal answer → KeepsOwn id_of old new answer
    keeps_no_jobs NoJobFile same is = keeps_same id_of old new NoJobFile same tt (λ opened. opened)
    keeps_no_jobs (BadJob text) same is = keeps_same id_of old new (BadJob text) same tt (λ opened. opened)
    keeps_no_jobs OutsideSource same is = keeps_same id_of old new OutsideSource same tt (λ opened. opened)
    keeps_no_jobs Memory same is = keeps_same id_of old new Memory same tt (λ opened. opened)
    keeps_no_jobs _ same is = absurd is

    -- a making
    module _ (sees : AreImages new (seen_of new)) (spared : IsMade (old 0).seen → new ≡ old) where
      init_own : (answer : Answer) → InitEnds old new answer → AreOwn id_of old → AreOwn id_of new
      init_own Made ends own = empty_own new ends.empty sees
      init_own AlreadyMade ends own = subst (AreOwn id_of) (sym ends.same) own
      init_own OutsideDisk ends own = making_leaves_own id_of old own why.DiskFault new sees ends spared
      init_own Memory ends own = subst (AreOwn id_of) (sym ends) own
      init_own _ ends own = absurd ends

      init_undamaged : (answer : Answer) → InitEnds old new answer → IsUndamaged answer
      init_undamaged (Damaged text) ends = absurd ends
      init_undamaged _ ends = tt

      init_opened : (answer : Answer) → InitEnds old new answer → HasOpened answer → AreOwn id_of new
      init_opened Made ends is = empty_own new ends.empty sees
      init_opened (Told text end) ends is = absurd ends
      init_opened OutsideClock ends is = absurd ends
      init_opened _ ends is = absurd is

      pub keeps_making : (answer : Answer) → InitEnds old new answer → KeepsOwn id_of old new answer
      keeps_making answer ends = record { undamaged = λ _. init_undamaged answer ends; own = init_own answer ends; opened = init_opened answer ends; opening = opening_moments id_of old }

    -- and at the end of the run
    pub ends_own : (answer : Answer) (s : Span) (status : ℕ) → KeepsOwn id_of old new answer → IsTold answer s status → EndsOwn id_of old new status
    ends_own answer s status keeps told = record {
      own = keeps.own;
      told = λ less.
          let printed = uncut answer s status (λ four. omega (arith, four, less)) told in
          let below : status_of answer < 2 = omega (arith, printed.status_is, less) in
          keeps.opened (low_opened answer below);
    }
