-- What the functions that take a step answer, and what they ask.
use Rattle.std.specs.Prelude.{◌≡◌, ◌≢◌, ℕ, ◌<◌, ◌^◌, Err, List, length, map}
use Rattle.swh_base.specs.declared.kind.Kind.{Kind}
use Rattle.swh_base.specs.declared.visit.Status.TheVariants.{Created}
use Rattle.swh_outside.specs.Disk.{Call, Write, Sync}
use Rattle.swh_outside.specs.Files.{FileCall}
use Rattle.swh_model.specs.declared.event.Event.{Event}
use Rattle.swh_model.specs.declared.event.EventKind.{EventKind}
use Rattle.swh_model.specs.declared.event.EventKind.TheVariants.{Batch, Mark}
use Rattle.swh_model.specs.declared.event.Wish.{Wish}
use Rattle.swh_model.specs.Judge.{IsVerdict, IsWish}
use Rattle.swh_segment.specs.Calls.{calls_for}
use Rattle.swh_core.specs.declared.call.DeviceCall.{DeviceCall}
use Rattle.swh_core.specs.declared.call.DeviceCall.TheVariants as device
use Rattle.swh_core.specs.declared.call.EventCall.{EventCall}
use Rattle.swh_core.specs.declared.call.EventCall.TheVariants.{Ledger, Store}
use Rattle.swh_core.specs.declared.judging.Judgement.{Judgement}
use Rattle.swh_core.specs.declared.judging.Judgement.TheVariants.{Refused, Allowed}
use Rattle.swh_core.specs.Step.{Lets}

-- a device call as code has it
abbrev pub call_of : DeviceCall → Call
call_of (device.Write at bytes) = Write at bytes
call_of device.Sync = Sync

-- a call on the ledger, or on the store
abbrev pub file_call : EventCall → FileCall
file_call (Ledger call) = (0, call_of call)
file_call (Store call) = (1, call_of call)

-- A batch has no more objects than its record can count, and no mark makes a visit created.
abbrev pub FitsRecord : EventKind → Type 0
FitsRecord (Batch entries) = length entries < 2 ^ 32
FitsRecord (Mark origin visit status snapshot) = status ≢ Created
FitsRecord _ = Unit {0}

-- It is a wish, with the names of some namer.
pub record IsSomeWish (wish : Wish) : Type 0 where
  pub id_of : Kind → List ℕ → List ℕ
  pub is : IsWish id_of wish

-- The verdict on a wish, with the device calls of the event.
abbrev pub IsJudged : List Event → ℕ → Wish → Judgement → Type 0
IsJudged h actor wish (Refused cause) = IsVerdict h actor wish (Err cause)
IsJudged h actor wish (Allowed event outcome calls) =
    Lets h actor wish event outcome × (map file_call calls.items ≡ calls_for h event)
