-- Refusals for causes.
use Rattle.std.specs.Prelude.{false}
use Rattle.swh_model.specs.declared.event.No.{No}
use Rattle.swh_model.specs.declared.event.No.TheVariants.{Limit, NoVisit, NotYours, Ended, NoSnapshot, NotClosed, Collision}
use Rattle.swh_plan.specs.declared.planning.PlanFault.{PlanFault}
use Rattle.swh_plan.specs.declared.planning.PlanFault.TheVariants.{Refused, Memory}
use Rattle.swh_keeper.specs.declared.fault.Refusal as refused
use Rattle.swh_keeper.specs.declared.fault.Refusal.TheVariants as refusal

-- the refusal for a judged cause
abbrev pub refusal_of : No → refused.Refusal
refusal_of (Limit which number) = refusal.Limit which number
refusal_of (NoVisit have) = refusal.NoVisit have
refusal_of (NotYours by) = refusal.NotYours by
refusal_of (Ended status) = refusal.Ended status
refusal_of (NoSnapshot name) = refusal.NoSnapshot name
refusal_of (NotClosed parent child) = refusal.NotClosed parent child
refusal_of (Collision name) = refusal.Collision name

-- the refusal for why there is no plan
abbrev pub plan_refusal : PlanFault → refused.Refusal
plan_refusal (Refused cause) = refusal_of cause
plan_refusal Memory = refusal.Memory false
