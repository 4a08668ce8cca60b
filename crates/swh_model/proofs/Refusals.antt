-- Verdicts from their parts.
use Rattle.std.proofs.Common.{◌≡◌, ◌⊎◌, inl, inr, ℕ, zero, suc, ◌+◌, ◌-◌, ◌<◌, ◌≤◌, Option, Some, None, Err, List, [], ◌∷◌, length, refl, sym, ap, ◌∙◌, subst, arith}
use Rattle.std.specs.List.{slice_get}
use Rattle.swh_base.specs.declared.name.Name.{Name}
use Rattle.swh_base.specs.declared.entry.Entry.{Entry}
use Rattle.swh_base.specs.declared.visit.Status.{Status}
use Rattle.swh_base.specs.declared.visit.Which.TheVariants.{Objects}
use Rattle.swh_base.specs.Limits.{objects_limit}
use Rattle.swh_model.specs.declared.event.Visit.{Visit}
use Rattle.swh_model.specs.declared.event.Event.{Event}
use Rattle.swh_model.specs.declared.event.EventKind.{EventKind}
use Rattle.swh_model.specs.declared.event.EventKind.TheVariants.{Mark}
use Rattle.swh_model.specs.declared.event.Wish.{Wish}
use Rattle.swh_model.specs.declared.event.Wish.TheVariants as wished
use Rattle.swh_model.specs.declared.event.No.{No}
use Rattle.swh_model.specs.declared.event.No.TheVariants.{Limit, NoVisit, NotYours, Ended, NoSnapshot, NotClosed, Collision}
use Rattle.swh_model.specs.Archive.{Bodies, body_of, visits_of, IsHeld}
use Rattle.swh_model.specs.Step.{replay}
use Rattle.swh_base.specs.Snapshot.{snapshot_name}
use Rattle.swh_base.specs.Visit.{IsFinal, last_status}
use Rattle.swh_model.specs.Judge.{not_held, event_of, BatchPasses, FilePasses, BatchCause, MarkCause, Collides, rank, ComesBefore, IsVerdict}
use Rattle.swh_model.proofs.Verdicts.{length-fresh, le_unless}
use Rattle.swh_model.proofs.Worked.{none_below, none_before, earlier}
use Rattle.swh_model.proofs.Walks.{reaches-next}
use Rattle.swh_model.specs.Judged.{NonePasses, IsAt, MayBeMarked, IsSnapshotRefusal, SuitsStatus}

-- a batch within its limits has few entries, and what is new of it no more
pub few_fresh : (bodies : Bodies) (es fs : List Entry) → fs ≡ not_held bodies es → NonePasses (BatchPasses es) → length fs ≤ 4096
few_fresh bodies es fs is none =
    let few : length es ≤ objects_limit = le_unless (length es) objects_limit (λ many. none Objects (length es) (refl, many)) in
    omega (arith, few, length-fresh bodies es, ap length is)

no_limit : (h : List Event) (es : List Entry) → NonePasses (BatchPasses es) → NonePasses (FilePasses h (event_of (replay h) (wished.Batch es))) → (name : Name) (other : No) → ComesBefore other (Collision name) → BatchCause h es other → ⊥
no_limit h es none files n (Limit v m) less (inl p) = none v m p
no_limit h es none files n (Limit v m) less (inr q) = files v m q
no_limit h es none files n (Collision name) less is = let l = earlier (Collision name) (Collision n) refl less in omega (arith, l)
no_limit h es none files n (NoVisit have) less is = is
no_limit h es none files n (NotYours by) less is = is
no_limit h es none files n (Ended status) less is = is
no_limit h es none files n (NoSnapshot name) less is = is
no_limit h es none files n (NotClosed parent child) less is = is

pub batch_collides : (h : List Event) (by : ℕ) (es : List Entry) (name : Name) → NonePasses (BatchPasses es) → NonePasses (FilePasses h (event_of (replay h) (wished.Batch es))) → Collides (replay h).bodies es name → IsVerdict h by (wished.Batch es) (Err (Collision name))
batch_collides h by es name none files is = (is, no_limit h es none files name)

pub batch_passes : (h : List Event) (es : List Entry) → NonePasses (BatchPasses es) → NonePasses (FilePasses h (event_of (replay h) (wished.Batch es))) → ((name : Name) → Collides (replay h).bodies es name → ⊥) → (cause : No) → BatchCause h es cause → ⊥
batch_passes h es none files apart (Limit v m) (inl p) = none v m p
batch_passes h es none files apart (Limit v m) (inr q) = files v m q
batch_passes h es none files apart (Collision name) is = apart name is
batch_passes h es none files apart (NoVisit have) is = is
batch_passes h es none files apart (NotYours by) is = is
batch_passes h es none files apart (Ended status) is = is
batch_passes h es none files apart (NoSnapshot name) is = is
batch_passes h es none files apart (NotClosed parent child) is = is

same_visit : (o : Option Visit) (v w : Visit) → o ≡ Some v → o ≡ Some w → v ≡ w
same_visit o v w a b = cc

same_id : (o : Option (List ℕ)) (v w : List ℕ) → o ≡ Some v → o ≡ Some w → v ≡ w
same_id o v w a b = cc

pub none_past : (us : List Visit) (j : ℕ) (y : Visit) → slice_get us j ≡ Some y → length us ≤ j → ⊥
none_past [] j y e l = let f : None ≡ Some y = e in cc
none_past (u ∷ us) zero y e l = omega (arith, l)
none_past (u ∷ us) (suc j) y e l = none_past us j y e (omega (arith, l))

within_list : (vs : List Visit) (n : ℕ) (v : Visit) (have : ℕ) → IsAt vs n v → have ≡ length vs → (n ≡ 0) ⊎ (have < n) → ⊥
within_list vs n v have at l (inl none) = let p = at.0 in omega (arith, p, none)
within_list vs n v have at l (inr past) = let p = at.0 in none_past vs (n - 1) v at.1 (omega (arith, p, l, past))

module _ (h : List Event) (by : ℕ) (origin : List ℕ) (number : ℕ) (status : Status) (snapshot : Option (List ℕ)) where
  abbrev Wanted : EventKind
  Wanted = Mark origin number status snapshot

  abbrev Asked : Wish
  Asked = wished.Mark origin number status snapshot

  abbrev Visits : List Visit
  Visits = visits_of (replay h).origins origin

  abbrev Files : Type 0
  Files = NonePasses (FilePasses h Wanted)

  no_visit : (v : Visit) → IsAt Visits number v → (have : ℕ) → MarkCause h by Wanted origin number status snapshot (NoVisit have) → ⊥
  no_visit v at have (l, z) = within_list Visits number v have at l z

  not_yours : (v : Visit) → IsAt Visits number v → v.by ≡ by → (other : ℕ) → MarkCause h by Wanted origin number status snapshot (NotYours other) → ⊥
  not_yours v at mine other (w, there, is, apart) = apart (subst (λ (x : Visit). x.by ≡ by) (same_visit _ v w at.1 there.1) mine)

  not_ended : (v : Visit) → IsAt Visits number v → (IsFinal (last_status v.statuses) → ⊥) → (last : Status) → MarkCause h by Wanted origin number status snapshot (Ended last) → ⊥
  not_ended v at open_ last (w, there, is, final) =
      subst (λ (x : Visit). IsFinal (last_status x.statuses) → ⊥) (same_visit _ v w at.1 there.1) open_ (subst IsFinal is final)

  snapshot_there : (id : List ℕ) → snapshot ≡ Some id → IsHeld (replay h).bodies (snapshot_name id) → (name : Name) → MarkCause h by Wanted origin number status snapshot (NoSnapshot name) → ⊥
  snapshot_there id s held name (jd, t, is, none) =
      let same : jd ≡ id = same_id snapshot jd id t s in
      let missing : body_of (replay h).bodies (snapshot_name id) ≡ None = ap (λ (k : List ℕ). body_of (replay h).bodies (snapshot_name k)) (sym same) ∙ ap (body_of (replay h).bodies) (sym is) ∙ none in
      let e = held.1 in let f : Some held.0 ≡ None = sym e ∙ missing in absurd (cc)

  pub mark_snapshot_refused : Files → MayBeMarked Visits by number → (no : No) → IsSnapshotRefusal (replay h).bodies status snapshot no → IsVerdict h by Asked (Err no)
  mark_snapshot_refused files may (NoSnapshot name) is =
      (is, none_before h by Wanted origin number status snapshot (NoSnapshot name) refl files (λ l. no_visit may.visit may.there) (λ l. not_yours may.visit may.there may.opened) (λ l. not_ended may.visit may.there may.unended) (λ l. absurd (omega (arith, l))) (λ l. absurd (omega (arith, l))))
  mark_snapshot_refused files may (NotClosed parent child) (full, id, s, held, gap) = (
    (full, id, s, gap.reached, gap.is_child, gap.missing),
    none_before h by Wanted origin number status snapshot (NotClosed parent child) refl files (λ l. no_visit may.visit may.there) (λ l. not_yours may.visit may.there may.opened) (λ l. not_ended may.visit may.there may.unended) (λ l. snapshot_there id s held) (λ l. absurd (omega (arith, l))),
  )
  mark_snapshot_refused files may (Limit w n) is = absurd is
  mark_snapshot_refused files may (NoVisit have) is = absurd is
  mark_snapshot_refused files may (NotYours other) is = absurd is
  mark_snapshot_refused files may (Ended last) is = absurd is
  mark_snapshot_refused files may (Collision name) is = absurd is

  nothing_open : SuitsStatus (replay h).bodies status snapshot → (parent child : Name) → MarkCause h by Wanted origin number status snapshot (NotClosed parent child) → ⊥
  nothing_open suits parent child (full, id, s, reach, is_child, missing) =
      let held = suits.closed id s full child (reaches-next (replay h).bodies reach.0 (snapshot_name id) parent child reach.1 is_child) in
      let e = held.1 in let f : Some held.0 ≡ None = sym e ∙ missing in absurd (cc)

  nothing_missing : SuitsStatus (replay h).bodies status snapshot → (name : Name) → MarkCause h by Wanted origin number status snapshot (NoSnapshot name) → ⊥
  nothing_missing suits name (id, s, is, none) = snapshot_there id s (suits.held id s) name (id, s, is, none)

  pub mark_passes : Files → MayBeMarked Visits by number → SuitsStatus (replay h).bodies status snapshot → (cause : No) → MarkCause h by Wanted origin number status snapshot cause → ⊥
  mark_passes files may suits cause is =
      none_below h by Wanted origin number status snapshot ((rank cause).0 + 1) files (λ l. no_visit may.visit may.there) (λ l. not_yours may.visit may.there may.opened) (λ l. not_ended may.visit may.there may.unended)
      (λ l. nothing_missing suits) (λ l. nothing_open suits) cause (omega arith) is
