use Rattle.std.proofs.Common.{[], ◌∷◌}
use Rattle.swh_model.specs.declared.event.Wish.TheVariants as wished
use Rattle.swh_plan.specs.Plan.{status_of, snapshot_of}
use Rattle.swh_ingest.specs.Ending.{IsMarkOf, IsMarkAsked}
use Rattle.swh_ingest.specs.Owning.{attempt_of, mark_of, IsKind, IsWished}
use Rattle.swh_ingest.proofs.Ends.{of_mark, asked_mark}
use Rattle.swh_ingest.proofs.Steps.{adds_as, asking_as}
use Rattle.swh_ingest.proofs.ending.end_as.Goals as goal

pub returns-in-Ok-clause-adds : goal.returns-in-Ok-clause-adds
returns-in-Ok-clause-adds g c =
    let v = c.args.visit.now in
    let t = attempt_of v in
    let status = status_of c.args.how in
    let snapshot = snapshot_of c.args.how in
    adds_as g.N.Namer.id_of (g.P.Destination.protocol c.args.destination.now) (g.met.P.Destination.lawful c.args.destination.now) (IsKind (mark_of t v.number status snapshot)) (IsMarkOf t v.number) ((status, snapshot) ∷ []) c.args.writer.now c.mark.new.writer (of_mark t v.number status snapshot) c.in-Ok.ensures.adds

pub returns-in-Err-clause-stops : goal.returns-in-Err-clause-stops
returns-in-Err-clause-stops g c =
    let v = c.args.visit.now in
    let t = attempt_of v in
    let status = status_of c.args.how in
    let snapshot = snapshot_of c.args.how in
    asking_as g.N.Namer.id_of (g.P.Destination.protocol c.args.destination.now) (g.met.P.Destination.lawful c.args.destination.now) (IsWished (wished.Mark t.origin v.number status snapshot)) (IsMarkAsked t v.number) c.args.writer.now c.mark.new.writer c.in-Err.why (asked_mark t v.number status snapshot) c.in-Err.ensures.stops

pub returns-in-Err-clause-stops_so : goal.returns-in-Err-clause-stops_so
returns-in-Err-clause-stops_so g c = c.in-Err.ensures.stops
