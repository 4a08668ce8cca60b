-- A keeper's refusals as a destination's.
use Rattle.swh_model.specs.declared.event.No.TheVariants as cause
use Rattle.swh_ingest.specs.declared.refusal.Refusal.{Refusal}
use Rattle.swh_ingest.specs.declared.refusal.Refusal.TheVariants.{No, DiskFault, Wounded, Memory}
use Rattle.swh_keeper.specs.declared.fault.Refusal as kept
use Rattle.swh_keeper.specs.declared.fault.Refusal.TheVariants as refusal

-- the destination's refusal for one of its keeper
abbrev pub destination_refusal : kept.Refusal → Refusal
destination_refusal (refusal.Wounded first) = Wounded
destination_refusal (refusal.Limit which number) = No (cause.Limit which number)
destination_refusal (refusal.NoVisit have) = No (cause.NoVisit have)
destination_refusal (refusal.NotYours by) = No (cause.NotYours by)
destination_refusal (refusal.Ended status) = No (cause.Ended status)
destination_refusal (refusal.NoSnapshot name) = No (cause.NoSnapshot name)
destination_refusal (refusal.NotClosed parent child) = No (cause.NotClosed parent child)
destination_refusal (refusal.Collision name) = No (cause.Collision name)
destination_refusal refusal.DiskFault = DiskFault
destination_refusal (refusal.Memory stands) = Memory stands
