-- Why a step of a load stops.
use Rattle.std.specs.Prelude.{◌≡◌}
use Rattle.swh_model.specs.declared.event.No.TheVariants.{Limit as LimitNo, Ended as EndedNo, Collision as CollisionNo}
use Rattle.swh_ingest.specs.declared.refusal.Refusal.{Refusal}
use Rattle.swh_ingest.specs.declared.refusal.Refusal.TheVariants as refusal
use Rattle.swh_ingest.specs.declared.stop.Stop.{Stop}
use Rattle.swh_ingest.specs.declared.stop.Stop.TheVariants as stop

-- The refusals at which a step may stop.
abbrev pub MayStop : Refusal → Type 0
MayStop (refusal.No (LimitNo which number)) = Unit {0}
MayStop (refusal.No (EndedNo status)) = Unit {0}
MayStop (refusal.No cause) = ⊥
MayStop _ = Unit {0}

-- The refusals of a batch at which a step may stop, or a visit ends.
abbrev pub MayStopBatch : Refusal → Type 0
MayStopBatch (refusal.No (LimitNo which number)) = Unit {0}
MayStopBatch (refusal.No (CollisionNo name)) = Unit {0}
MayStopBatch (refusal.No cause) = ⊥
MayStopBatch _ = Unit {0}

-- What each of them means for a load.
abbrev pub IsWhyOf : Refusal → Stop → Type 0
IsWhyOf (refusal.No (LimitNo which number)) why = why ≡ stop.Limit which number
IsWhyOf (refusal.No (EndedNo status)) why = why ≡ stop.Ended status
IsWhyOf (refusal.No cause) why = ⊥
IsWhyOf refusal.DiskFault why = why ≡ stop.DiskFault
IsWhyOf refusal.Wounded why = why ≡ stop.Wounded
IsWhyOf (refusal.Memory stands) why = why ≡ stop.Memory
