-- A plan as a wish, which is a plan without the certificate.
use Rattle.std.specs.Prelude.{◌≡◌, ℕ, Option, Some, None, List}
use Rattle.swh_base.specs.declared.name.Name.{Name}
use Rattle.swh_base.specs.declared.visit.Status.{Status}
use Rattle.swh_base.specs.declared.visit.Status.TheVariants as status
use Rattle.swh_model.specs.declared.event.Wish.{Wish}
use Rattle.swh_model.specs.declared.event.Wish.TheVariants as wished
use Rattle.swh_model.specs.declared.event.No.{No}
use Rattle.swh_model.specs.declared.event.No.TheVariants.{NoSnapshot, NotClosed}
use Rattle.swh_model.specs.Archive.{Bodies, body_of, IsHeld}
use Rattle.swh_model.specs.Walk.{IsGap}
use Rattle.swh_plan.specs.declared.how.How as hows
use Rattle.swh_plan.specs.declared.how.How.TheVariants.{Ongoing, Full, Partial, NotFound, Failed}
use Rattle.swh_plan.specs.declared.proposal.Plan as plans
use Rattle.swh_plan.specs.declared.proposal.Plan.TheVariants.{Batch, Open, Mark}

-- the status of a visit that goes on so
abbrev pub status_of : hows.How → Status
status_of Ongoing = status.Ongoing
status_of (Full snapshot cert) = status.Full
status_of (Partial snapshot) = status.Partial
status_of NotFound = status.NotFound
status_of Failed = status.Failed

-- the snapshot of a visit that goes on so, if it has one
abbrev pub snapshot_of : hows.How → Option (List ℕ)
snapshot_of Ongoing = None
snapshot_of (Full snapshot cert) = Some snapshot
snapshot_of (Partial snapshot) = snapshot
snapshot_of NotFound = None
snapshot_of Failed = None

-- what is wanted by a plan
abbrev pub wish_of : {N : Type 0} → plans.Plan N → Wish
wish_of (Batch objects) = wished.Batch objects.items
wish_of (Open origin kind date) = wished.Open origin kind date
wish_of (Mark origin visit how) = wished.Mark origin visit (status_of how) (snapshot_of how)

-- What stands against a full visit's snapshot of this name.
abbrev pub IsFullRefusal : Bodies → Name → No → Type 0
IsFullRefusal bodies root (NoSnapshot name) = (name ≡ root) × (body_of bodies name ≡ None)
IsFullRefusal bodies root (NotClosed parent child) = IsHeld bodies root × IsGap bodies root parent child
IsFullRefusal bodies root _ = ⊥
