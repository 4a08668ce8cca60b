-- What the types of a plan say of the record of its event.
use Rattle.std.specs.Prelude.{◌<◌, ◌^◌}
use Rattle.std.specs.List.{AllByRecursion}
use Rattle.swh_model.specs.declared.event.Wish.{Wish}
use Rattle.swh_model.specs.declared.event.Wish.TheVariants.{Batch, Open, Mark}
use Rattle.swh_format.specs.Fields.{IsSnapshotId}
use Rattle.swh_format.specs.Origin.{IsOrigin}
use Rattle.swh_format.specs.StoredObject.{IsCodableEntry}

-- Each part of the wish that has a field in the record fits it.
abbrev pub FitsFields : Wish → Type 0
FitsFields (Batch entries) = AllByRecursion IsCodableEntry entries
FitsFields (Open origin kind date) = IsOrigin origin × (date < 2 ^ 64)
FitsFields (Mark origin visit status snapshot) = IsOrigin origin × (visit < 2 ^ 64) × IsSnapshotId snapshot
