-- What is said of a keeper as the destination of one loader.
use Rattle.std.specs.Prelude.{◌≡◌, ℕ, ◌≤◌, true, None, List, ◌++◌, length}
use Rattle.swh_base.specs.declared.kind.Kind.{Kind}
use Rattle.swh_outside.specs.Files.{files_done}
use Rattle.swh_outside.specs.Views.{Disks}
use Rattle.swh_model.specs.declared.event.Event.{Event}
use Rattle.swh_model.specs.declared.event.Wish.{Wish}
use Rattle.swh_model.specs.Judge.{event_of}
use Rattle.swh_model.specs.Step.{MayAll, replay}
use Rattle.swh_segment.specs.Calls.{all_calls}
use Rattle.swh_segment.specs.Makes.{ADiskFailed}
use Rattle.swh_segment.specs.Moments.{BreaksAtEvent}
use Rattle.swh_keeper.specs.Calls.{kept_files}
use Rattle.swh_keeper.specs.Kept.{Kept, RefusesPlan}
use Rattle.swh_keeper.specs.declared.fault.Refusal as kept
use Rattle.swh_keeper.specs.declared.fault.Refusal.TheVariants.{DiskFault}
use Rattle.swh_ingest.specs.declared.refusal.Refusal.{Refusal}
use Rattle.swh_ingest.specs.Knowing.{Known, Protocol}
use Rattle.swh_keeperload.specs.Refusing.{destination_refusal}

-- the event that the worker `by` is to add for a wish
abbrev pub event_for : List Event → ℕ → Wish → Event
event_for h by wish = record { by = by; what = event_of (replay h) wish }

-- The event is the one that a wish asks for.
abbrev pub IsEventFor : List Event → ℕ → Wish → Event → Type 0
IsEventFor h by wish e = e ≡ event_for h by wish

module _ {D : Type 0} (id : Kind → List ℕ → List ℕ) (disks : Disks D) where
  -- These events were added, with their device calls, in order. No disk has failed, and no count of faults fell.
  pub record AddsOn (own : List Event) (old new : Kept D) : Type 0 where
    pub behind : new.history ≡ old.history ++ own
    pub may : MayAll id (replay old.history) own
    pub before_it : old.wounded ≡ None
    pub unwounded : new.wounded ≡ None
    pub store_later : disks.faults old.store ≤ disks.faults new.store
    pub ledger_later : disks.faults old.ledger ≤ disks.faults new.ledger
    pub calls : disks.tells → kept_files disks.file new ≡ files_done (all_calls old.history own) (kept_files disks.file old)

  -- The keeper refused a wish: nothing was added. Where a disk failed the calls of its event were made up to one that failed.
  pub record FailsOn (by : ℕ) (wish : Wish) (refusal : Refusal) (old new : Kept D) : Type 0 where
    pub refused : kept.Refusal
    pub is : refusal ≡ destination_refusal refused
    pub refuses : RefusesPlan old by wish new refused
    pub store_later : disks.faults old.store ≤ disks.faults new.store
    pub ledger_later : disks.faults old.ledger ≤ disks.faults new.ledger
    pub cause : refused ≡ DiskFault → ADiskFailed (disks.faults old.store) (disks.faults new.store) (disks.faults old.ledger) (disks.faults new.ledger)
    pub broken : disks.tells → refused ≡ DiskFault → BreaksAtEvent id (IsEventFor old.history by wish) old.history (kept_files disks.file old) (kept_files disks.file new)

  -- what is known of a keeper by the one who adds to it
  abbrev pub known_of : ℕ → Kept D → Known
  known_of by k = record { number = by; front = k.history; made = length k.history }

  -- what is said of a keeper's states
  abbrev pub alone_protocol : ℕ → Protocol (Kept D)
  alone_protocol by = record {
    alone = true;
    known = known_of by;
    ready = λ k. k.wounded ≡ None;
    adds = AddsOn;
    fails = FailsOn by;
  }
