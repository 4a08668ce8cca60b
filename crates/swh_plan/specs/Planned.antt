-- A plan that may be carried out, or what stands against it.
use Rattle.std.specs.Prelude.{◌≡◌, ℕ, ◌+◌, ◌≤◌, ◌^◌, List, [], ◌∷◌, ◌++◌, length, Ok, Err}
use Rattle.swh_model.specs.declared.event.Event.{Event}
use Rattle.swh_model.specs.declared.event.EventKind.{EventKind}
use Rattle.swh_model.specs.declared.event.Wish.{Wish}
use Rattle.swh_format.specs.EventRecord.{packed_objects, coded_record, IsCodable}
use Rattle.std.specs.Global.{Vec}
use Rattle.swh_model.specs.declared.event.No.TheVariants.{Limit}
use Rattle.swh_model.specs.Judge.{IsVerdict, FilePasses}
use Rattle.swh_model.specs.Judged.{IsFirstOf}
use Rattle.swh_replay.specs.declared.replayed.Replayed.{Replayed}
use Rattle.swh_plan.specs.declared.planning.Planned.{Planned}
use Rattle.swh_plan.specs.declared.planning.PlanFault.{PlanFault}
use Rattle.swh_plan.specs.declared.planning.PlanFault.TheVariants.{Refused, Memory}

-- The plan's event may happen, and these are its bytes for the two files.
pub record IsPlanned (h : List Event) (by : ℕ) (wish : Wish) (r : Replayed) (p : Planned) : Type 0 where
  pub verdict : IsVerdict h by wish (Ok (p.event, p.outcome))
  pub run_is : p.run.items ≡ packed_objects p.event.what
  pub record_is : p.bytes.items ≡ coded_record r.store_end p.event ++ 0 ∷ []
  pub codable : IsCodable r.store_end p.event
  pub store_fits : r.store_end + length p.run.items ≤ 2 ^ 62
  pub ledger_fits : r.ledger_end + 1 + length p.bytes.items ≤ 2 ^ 62

-- The first cause against the plan.
abbrev pub IsRefusedPlan : List Event → ℕ → Wish → PlanFault → Type 0
IsRefusedPlan h by wish (Refused cause) = IsVerdict h by wish (Err cause)
IsRefusedPlan h by wish Memory = Unit {0}

-- The event's bytes for the ledger, which both files have room for.
pub record EncodesEvent (r : Replayed) (e : Event) (run : List ℕ) (bytes : Vec ℕ) : Type 0 where
  pub codable : IsCodable r.store_end e
  pub are : bytes.items ≡ coded_record r.store_end e ++ 0 ∷ []
  pub store_fits : r.store_end + length run ≤ 2 ^ 62
  pub ledger_fits : r.ledger_end + 1 + length bytes.items ≤ 2 ^ 62

-- The event would make a file too long.
abbrev pub PassesFileEnd : List Event → EventKind → PlanFault → Type 0
PassesFileEnd h event (Refused (Limit which number)) = IsFirstOf (FilePasses h event) (which, number)
PassesFileEnd h event (Refused _) = ⊥
PassesFileEnd h event Memory = Unit {0}
