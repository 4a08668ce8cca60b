-- What the answer of a keeper tells its one loader.
use Rattle.std.proofs.Common.{◌≡◌, inl, inr, ℕ, ◌+◌, ◌<◌, ◌≤◌, ◌^◌, true, false, cond, Option, None, Err, List, [], ◌∷◌, ◌++◌, length, refl, sym, ap, ◌∙◌, subst, arith}
use Rattle.std.specs.Prelude.{is_some}
use Rattle.std.specs.List.{AllByRecursion}
use Rattle.std.specs.FinMap as finite
use Rattle.std.proofs.lemmas.List.{append-nil, append_cancel_left}
use Rattle.swh_base.specs.declared.kind.Kind.{Kind}
use Rattle.swh_base.specs.declared.entry.Entry.{Entry}
use Rattle.swh_base.specs.declared.visit.Status.{Status}
use Rattle.swh_base.specs.declared.visit.Status.TheVariants.{Created, Ongoing, Full, Partial, NotFound, Failed}
use Rattle.swh_base.specs.declared.visit.Which.TheVariants.{Objects, Store}
use Rattle.swh_base.specs.Limits.{objects_limit, file_limit}
use Rattle.swh_outside.specs.Files.{FileCall, files_done}
use Rattle.swh_outside.specs.Views.{Disks}
use Rattle.swh_model.specs.declared.event.Event.{Event}
use Rattle.swh_model.specs.declared.event.Wish.{Wish}
use Rattle.swh_model.specs.declared.event.Wish.TheVariants.{Batch, Open, Mark}
use Rattle.swh_model.specs.declared.event.Outcome.{Outcome}
use Rattle.swh_model.specs.declared.event.No.{No as Cause}
use Rattle.swh_model.specs.declared.event.No.TheVariants as cause
use Rattle.swh_model.specs.Archive.{Bodies, empty_archive}
use Rattle.swh_model.specs.Limits.{store_length, run_length}
use Rattle.swh_model.specs.Step.{May, IsHistory, replay}
use Rattle.swh_model.specs.Judge.{IsCause, IsWish, IsVerdict, StatusAllows, not_held}
use Rattle.swh_model.proofs.Histories.{fronts}
use Rattle.swh_model.proofs.Verdicts.{wish_may, length-fresh, le_unless}
use Rattle.swh_format.specs.EventRecord.{IsCodable, AreCodable}
use Rattle.swh_format.specs.MarkRecord.{IsMarkStatus}
use Rattle.swh_format.specs.StoredObject.{IsCodableEntry}
use Rattle.swh_format.proofs.HistoryFiles.{codable-at}
use Rattle.swh_format.proofs.Lengths.{run-length}
use Rattle.swh_segment.specs.Calls.{calls_for}
use Rattle.swh_segment.specs.Makes.{ADiskFailed}
use Rattle.swh_segment.specs.Moments.{BreaksAtEvent}
use Rattle.swh_keeper.specs.Calls.{kept_files}
use Rattle.swh_keeper.specs.Keeping.{IsCarriedOut, IsBrokenOff}
use Rattle.swh_keeper.specs.Kept.{Kept, IsKept, Applies, RefusesPlan as RefusesKept}
use Rattle.swh_keeper.specs.declared.fault.Refusal.{Refusal}
use Rattle.swh_keeper.specs.declared.fault.Refusal.TheVariants as refusal
use Rattle.swh_ingest.specs.Knowing.{Follows, CarriesOut, RefusesPlan, IsAgainst, unseen}
use Rattle.swh_ingest.proofs.Growing.{follows_self}
use Rattle.swh_keeperload.specs.Alone.{AddsOn, IsEventFor, event_for, alone_protocol}
use Rattle.swh_keeperload.specs.Fitting.{FitsFields}
use Rattle.swh_keeperload.specs.Refusing.{destination_refusal}
use Rattle.swh_keeperload.specs.Lawful.{none}

fresh-all : (P : Entry → Type 0) (bodies : Bodies) (es : List Entry) → AllByRecursion P es → AllByRecursion P (not_held bodies es)
fresh-all P bodies [] h = tt
fresh-all P bodies (e ∷ es) h =
    elim (is_some (finite.get bodies e.name)) as (λ b. AllByRecursion P (cond b (not_held bodies es) (e ∷ not_held (finite.insert bodies e.name e.body) es))) [
      | true ↦ fresh-all P bodies es h.1
      | false ↦ (h.0, fresh-all P (finite.insert bodies e.name e.body) es h.1)
    ]

marks_status : (status : Status) (snapshot : Option (List ℕ)) → StatusAllows status snapshot → IsMarkStatus status
marks_status Created snapshot h = h
marks_status Ongoing snapshot h = tt
marks_status Full snapshot h = tt
marks_status Partial snapshot h = tt
marks_status NotFound snapshot h = tt
marks_status Failed snapshot h = tt

-- the event of a wish against which there is no cause fits its fields
event_fits : (id : Kind → List ℕ → List ℕ) (h : List Event) (by : ℕ) (wish : Wish) → by < 2 ^ 32 → IsWish id wish → FitsFields wish → ((c : Cause) → IsCause h by wish c → ⊥) → IsCodable (store_length h) (event_for h by wish)
event_fits id h by (Batch entries) by_fits good fits no_cause =
    let fresh = not_held (replay h).bodies entries in
    let few : length entries ≤ objects_limit = le_unless (length entries) objects_limit (λ past. no_cause (cause.Limit Objects (length entries)) (inl (refl, past))) in
    let end = store_length h + run_length fresh in
    let small : end ≤ file_limit = le_unless end file_limit (λ past. no_cause (cause.Limit Store end) (inr (refl, past))) in
    let fewer = length-fresh (replay h).bodies entries in
    let long = run-length fresh in (
      by_fits,
      record {
        entries_codable = fresh-all IsCodableEntry (replay h).bodies entries fits;
        number = omega (arith, few, fewer);
        end = omega (arith, small, long);
      },
    )
event_fits id h by (Open origin kind date) by_fits good fits no_cause = (by_fits, record { is_origin = fits.0; date_fits = fits.1 })
event_fits id h by (Mark origin visit status snapshot) by_fits good fits no_cause =
    (by_fits, record { is_origin = fits.0; visit_fits = fits.1; is_status = marks_status status snapshot good; is_snapshot = fits.2 })

one_event : (d e : Event) → d ∷ [] ≡ e ∷ [] → d ≡ e
one_event d e same = cc

module _ {D : Type 0} (id : Kind → List ℕ → List ℕ) (disks : Disks D) (by : ℕ) (wish : Wish) (old new : Kept D) where
  -- the calls up to one that failed
  pub breaks_at : by < 2 ^ 32 → IsWish id wish → FitsFields wish → IsKept id disks.tells disks.file old → disks.tells → old.wounded ≡ None → IsBrokenOff old.history by wish (kept_files disks.file old) (kept_files disks.file new)
      → BreaksAtEvent id (IsEventFor old.history by wish) old.history (kept_files disks.file old) (kept_files disks.file new)
  breaks_at by_fits good fits kept told unwounded b =
      let this : b.event ≡ event_for old.history by wish = b.verdict.1 in record {
        event = b.event;
        next = this;
        may = subst (May id (replay old.history)) (sym this) (wish_may id old.history by wish good b.verdict.0);
        codable = subst (λ (e : Event). AreCodable 0 (old.history ++ e ∷ [])) (sym this)
            (codable-at old.history (event_for old.history by wish) (store_length old.history) refl (kept.standing unwounded told).stand.codable (event_fits id old.history by wish by_fits good fits b.verdict.0));
        breaks = b.breaks;
      }

  pub carried : (outcome : Outcome) → Applies old.history by wish new.history outcome → IsHistory id new.history → (old.wounded ≡ None) × (new.wounded ≡ None) → disks.faults old.store ≤ disks.faults new.store → disks.faults old.ledger ≤ disks.faults new.ledger
      → (disks.tells → IsCarriedOut old.history new.history (kept_files disks.file old) (kept_files disks.file new)) → CarriesOut id (alone_protocol id disks by) wish old new outcome
  carried outcome a history unwounded store ledger calls =
      let parts = fronts id empty_archive old.history (a.event ∷ []) (subst (IsHistory id) a.added_behind history) in record {
        base = old.history;
        follows = follows_self id true old.history;
        event = a.event;
        verdict = a.verdict;
        may = parts.1.0;
        front = a.added_behind;
        adds = record {
          behind = a.added_behind;
          may = parts.1;
          before_it = unwounded.0;
          unwounded = unwounded.1;
          store_later = store;
          ledger_later = ledger;
          calls = λ told.
              let c = calls told in
              let same : c.event ≡ a.event = one_event c.event a.event (append_cancel_left old.history (c.event ∷ []) (a.event ∷ []) (sym c.added_behind ∙ a.added_behind)) in
              c.calls ∙ ap (λ (e : Event). files_done (calls_for old.history e) (kept_files disks.file old)) same ∙ ap (λ (plan : List FileCall). files_done plan (kept_files disks.file old)) (sym (append-nil (calls_for old.history a.event)));
        };
      }

  -- the history is as it was
  pub refused_same : (r : Refusal) → RefusesKept old by wish new r → new.history ≡ old.history
  refused_same (refusal.Wounded first) h = ap (λ (k : Kept D). k.history) h.1
  refused_same (refusal.Limit which number) h = ap (λ (k : Kept D). k.history) h.same
  refused_same (refusal.NoVisit have) h = ap (λ (k : Kept D). k.history) h.same
  refused_same (refusal.NotYours other) h = ap (λ (k : Kept D). k.history) h.same
  refused_same (refusal.Ended status) h = ap (λ (k : Kept D). k.history) h.same
  refused_same (refusal.NoSnapshot name) h = ap (λ (k : Kept D). k.history) h.same
  refused_same (refusal.NotClosed parent child) h = ap (λ (k : Kept D). k.history) h.same
  refused_same (refusal.Collision name) h = ap (λ (k : Kept D). k.history) h.same
  refused_same refusal.DiskFault h = h.history
  refused_same (refusal.Memory stands) h = ap (λ (k : Kept D). k.history) h.1

  judged : (c : Cause) → old.wounded ≡ None → IsVerdict old.history by wish (Err c) → new ≡ old → IsVerdict new.history by wish (Err c) × AddsOn id disks [] old new
  judged c unwounded verdict same = (
    subst (λ (k : Kept D). IsVerdict k.history by wish (Err c)) (sym same) verdict,
    subst (λ (k : Kept D). AddsOn id disks [] old k) (sym same) (none id disks by old unwounded),
  )

  against : (r : Refusal) → RefusesKept old by wish new r → IsAgainst id (alone_protocol id disks by) wish old new (destination_refusal r)
  against (refusal.Wounded first) h = tt
  against (refusal.Limit which number) h = judged (cause.Limit which number) h.unwounded h.verdict h.same
  against (refusal.NoVisit have) h = judged (cause.NoVisit have) h.unwounded h.verdict h.same
  against (refusal.NotYours other) h = judged (cause.NotYours other) h.unwounded h.verdict h.same
  against (refusal.Ended status) h = judged (cause.Ended status) h.unwounded h.verdict h.same
  against (refusal.NoSnapshot name) h = judged (cause.NoSnapshot name) h.unwounded h.verdict h.same
  against (refusal.NotClosed parent child) h = judged (cause.NotClosed parent child) h.unwounded h.verdict h.same
  against (refusal.Collision name) h = judged (cause.Collision name) h.unwounded h.verdict h.same
  against refusal.DiskFault h = tt
  against (refusal.Memory stands) h = tt

  none_unseen : (r : Refusal) → RefusesKept old by wish new r → unseen (destination_refusal r) ≡ 0
  none_unseen (refusal.Memory true) h = absurd (let both : true ≡ false = h.0 in cc)
  none_unseen (refusal.Memory false) h = refl
  none_unseen (refusal.Wounded first) h = refl
  none_unseen (refusal.Limit which number) h = refl
  none_unseen (refusal.NoVisit have) h = refl
  none_unseen (refusal.NotYours other) h = refl
  none_unseen (refusal.Ended status) h = refl
  none_unseen (refusal.NoSnapshot name) h = refl
  none_unseen (refusal.NotClosed parent child) h = refl
  none_unseen (refusal.Collision name) h = refl
  none_unseen refusal.DiskFault h = refl

  before_fault : (r : Refusal) → r ≡ refusal.DiskFault → RefusesKept old by wish new r → old.wounded ≡ None
  before_fault r is h = (subst (RefusesKept old by wish new) is h).before_it

  pub refused : (r : Refusal) → by < 2 ^ 32 → IsWish id wish → FitsFields wish → IsKept id disks.tells disks.file old → RefusesKept old by wish new r → disks.faults old.store ≤ disks.faults new.store → disks.faults old.ledger ≤ disks.faults new.ledger
      → (r ≡ refusal.DiskFault → ADiskFailed (disks.faults old.store) (disks.faults new.store) (disks.faults old.ledger) (disks.faults new.ledger)) → (disks.tells → r ≡ refusal.DiskFault → IsBrokenOff old.history by wish (kept_files disks.file old) (kept_files disks.file new))
      → RefusesPlan id (alone_protocol id disks by) wish old new (destination_refusal r)
  refused r by_fits good fits kept h store ledger rose broken =
      let same = refused_same r h in
      let unseen_none = none_unseen r h in record {
        against = against r h;
        follows = subst (λ (t : List Event). Follows id true old.history t) (sym same) (follows_self id true old.history);
        number = refl;
        made = let l : length new.history ≡ length old.history = ap length same in omega (arith, l, unseen_none);
        seen = λ one. unseen_none;
        fails = record {
          refused = r;
          is = refl;
          refuses = h;
          store_later = store;
          ledger_later = ledger;
          cause = rose;
          broken = λ told is. breaks_at by_fits good fits kept told (before_fault r is h) (broken told is);
        };
      }
