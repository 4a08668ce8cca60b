-- Plans that may be carried out.
use Rattle.std.proofs.Common.{◌≡◌, ℕ, ◌+◌, Option, Ok, Err, List, length, refl, ap, ◌∙◌, subst}
use Rattle.swh_base.specs.declared.name.Name.{Name}
use Rattle.swh_base.specs.declared.entry.Entry.{Entry}
use Rattle.swh_base.specs.declared.visit.Status.{Status}
use Rattle.swh_model.specs.declared.event.Event.{Event}
use Rattle.swh_model.specs.declared.event.EventKind.{EventKind}
use Rattle.swh_model.specs.declared.event.EventKind.TheVariants.{Batch, Mark}
use Rattle.swh_model.specs.declared.event.Wish.TheVariants as wished
use Rattle.swh_model.specs.declared.event.Outcome.TheVariants.{Added, Marked}
use Rattle.swh_model.specs.declared.event.No.{No}
use Rattle.swh_model.specs.declared.event.No.TheVariants.{Collision}
use Rattle.swh_model.specs.Archive.{Bodies, Origins, visits_of}
use Rattle.swh_model.specs.Step.{replay}
use Rattle.swh_model.specs.Judge.{not_held, event_of, BatchPasses, FilePasses, Collides, IsVerdict}
use Rattle.swh_replay.specs.declared.replayed.Replayed.{Replayed}
use Rattle.swh_model.specs.Judged.{NonePasses, MayBeMarked, IsSnapshotRefusal, SuitsStatus}
use Rattle.swh_replay.specs.Replay.{IsReplayOf}
use Rattle.swh_model.proofs.Refusals.{batch_collides, batch_passes, mark_passes, mark_snapshot_refused}

-- the event of a batch is what is new of it
pub batch_event : (r : Replayed) (h : List Event) (es fs : List Entry) → IsReplayOf r h → fs ≡ not_held r.store.bodies es → Batch fs ≡ event_of (replay h) (wished.Batch es)
batch_event r h es fs is new = ap (λ (l : List Entry). Batch l) (new ∙ ap (λ (b : Bodies). not_held b es) is.bodies)

pub batch_verdict : (r : Replayed) (h : List Event) (by number new : ℕ) (es fs : List Entry) → IsReplayOf r h → number ≡ length h + 1 → fs ≡ not_held r.store.bodies es → new ≡ length fs
    → NonePasses (BatchPasses es) → NonePasses (FilePasses h (Batch fs)) → ((name : Name) → Collides r.store.bodies es name → ⊥)
    → IsVerdict h by (wished.Batch es) (Ok (record { by = by; what = Batch fs }, Added number new))
batch_verdict r h by number new es fs is number_is fresh_is new_is none files apart =
    let event = batch_event r h es fs is fresh_is in (
      batch_passes h es none (subst (λ (e : EventKind). NonePasses (FilePasses h e)) event files) (subst (λ (b : Bodies). (name : Name) → Collides b es name → ⊥) is.bodies apart),
      (λ i. record { by = by; what = event i }),
      λ i. Added (number_is i) ((new_is ∙ ap length (fresh_is ∙ ap (λ (b : Bodies). not_held b es) is.bodies)) i),
    )

pub batch_collision : (r : Replayed) (h : List Event) (by : ℕ) (es fs : List Entry) (name : Name) → IsReplayOf r h → fs ≡ not_held r.store.bodies es → NonePasses (BatchPasses es) → NonePasses (FilePasses h (Batch fs))
    → Collides r.store.bodies es name → IsVerdict h by (wished.Batch es) (Err (Collision name))
batch_collision r h by es fs name is fresh_is none files collides =
    batch_collides h by es name none (subst (λ (e : EventKind). NonePasses (FilePasses h e)) (batch_event r h es fs is fresh_is) files) (subst (λ (b : Bodies). Collides b es name) is.bodies collides)

pub mark_verdict : (r : Replayed) (h : List Event) (by number : ℕ) (origin : List ℕ) (visit : ℕ) (status : Status) (snapshot : Option (List ℕ)) → IsReplayOf r h → number ≡ length h + 1
    → NonePasses (FilePasses h (Mark origin visit status snapshot)) → MayBeMarked (visits_of r.visits origin) by visit → SuitsStatus r.store.bodies status snapshot
    → IsVerdict h by (wished.Mark origin visit status snapshot) (Ok (record { by = by; what = Mark origin visit status snapshot }, Marked number))
mark_verdict r h by number origin visit status snapshot is number_is files may suits = (
  mark_passes h by origin visit status snapshot files (subst (λ (o : Origins). MayBeMarked (visits_of o origin) by visit) is.visits may) (subst (λ (b : Bodies). SuitsStatus b status snapshot) is.bodies suits),
  refl,
  ap (λ (n : ℕ). Marked n) number_is,
)

pub mark_refused : (r : Replayed) (h : List Event) (by : ℕ) (origin : List ℕ) (visit : ℕ) (status : Status) (snapshot : Option (List ℕ)) (no : No) → IsReplayOf r h
    → NonePasses (FilePasses h (Mark origin visit status snapshot)) → MayBeMarked (visits_of r.visits origin) by visit → IsSnapshotRefusal r.store.bodies status snapshot no
    → IsVerdict h by (wished.Mark origin visit status snapshot) (Err no)
mark_refused r h by origin visit status snapshot cause is files may against =
    mark_snapshot_refused h by origin visit status snapshot files (subst (λ (o : Origins). MayBeMarked (visits_of o origin) by visit) is.visits may) cause
    (subst (λ (b : Bodies). IsSnapshotRefusal b status snapshot cause) is.bodies against)
