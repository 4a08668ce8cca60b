-- Loads one after the other: what one says, and one more after some.
use Rattle.std.proofs.Common.{◌≤◌, Result, Ok, Err, List, [], ◌∷◌, ◌++◌, refl, subst}
use Rattle.std.specs.Prelude.{IfOk, IfErr}
use Rattle.swh_base.specs.declared.visit.VisitKind.{VisitKind}
use Rattle.swh_keeper.specs.Kept.{Kept}
use Rattle.swh_loader.specs.declared.end.Loaded.{Loaded}
use Rattle.swh_ingest.specs.declared.end.LoadFault.{LoadFault}
use Rattle.swh_loader.specs.Report.{detail_limit, end_room, outcome_room}
use Rattle.swh_loader.proofs.Leaves.{small_short}
use Rattle.swh_loader.specs.Ending.{IsJobEnd, held_bodies, statuses_of}
use Rattle.swh_keeperload.specs.Loading.{EndsVisit, Stops}
use Rattle.swh_pool.specs.Loads.{OneLoad, Loading, IsLoadOutcome, IsOneLoad, AreLoads, attempt_at, AreAllowedAt}

-- the room that is wanted for an outcome is within the limit of its kind
pub outcome_short : (kind : VisitKind) (result : Result Loaded LoadFault) → IfOk result (λ loaded. end_room loaded.end ≤ detail_limit kind) → outcome_room result ≤ detail_limit kind
outcome_short kind (Ok loaded) short = short
outcome_short kind (Err fault) short = small_short kind

module _ {S F D : Type 0} (given : Loading S F D) where
  -- what a load answers says how it ended
  pub outcome_of : (l : OneLoad S F) (old new : Kept D) (result : Result Loaded LoadFault)
      → IfOk result (λ loaded. EndsVisit (attempt_at given l) old new loaded.visit (statuses_of loaded.end))
      → IfOk result (λ loaded. IsJobEnd given.id given.parts (held_bodies new) l.job.job.input l.after.job.input loaded.end)
      → IfErr result (Stops given.id given.disks (AreAllowedAt given l) (attempt_at given l) old new)
      → IsLoadOutcome given l old new result
  outcome_of l old new (Ok loaded) ended means stops = record { number = ended.number; visit = ended.visit; means = means; on = ended.on; before_it = ended.before_it }
  outcome_of l old new (Err fault) ended means stops = stops

  -- one more load after some
  pub loads_further : (loads : List (OneLoad S F)) (l : OneLoad S F) (old mid new : Kept D) → AreLoads given loads old mid → IsOneLoad given l mid new → AreLoads given (loads ++ l ∷ []) old new
  loads_further [] l old mid new is one = (new, subst (λ (k : Kept D). IsOneLoad given l k new) is one, refl)
  loads_further (first ∷ loads) l old mid new h one = (h.0, h.1, loads_further loads l h.0 mid new h.2 one)
