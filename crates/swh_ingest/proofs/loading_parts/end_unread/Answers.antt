use Rattle.std.proofs.Common.{None, [], ◌∷◌}
use Rattle.swh_base.specs.declared.visit.Status.TheVariants.{Ongoing, Failed}
use Rattle.swh_ingest.specs.Owning.{attempt_of}
use Rattle.swh_ingest.specs.Ending.{IsMarkOf, IsMarkAsked}
use Rattle.swh_ingest.specs.Loading.{StopsUnended}
use Rattle.swh_ingest.specs.Walking.{StopsNow}
use Rattle.swh_ingest.proofs.Ends.{mine_on}
use Rattle.swh_ingest.proofs.Loads.{begun, not_begun, begun_stops, on_as, err_as}
use Rattle.swh_ingest.proofs.Steps.{adds_then}
use Rattle.swh_ingest.proofs.loading_parts.end_unread.Goals as goal

pub end_as-requires-clause-mine : goal.end_as-requires-clause-mine
end_as-requires-clause-mine g c κs within =
    let v = c.args.visit.now in
    let t = attempt_of v in
    let w = g.P.Destination.protocol c.args.destination.now in
    let law = g.met.P.Destination.lawful c.args.destination.now in
    mine_on g.N.Namer.id_of w law (IsMarkOf t v.number) ((Ongoing, None) ∷ []) c.args.writer.now c.mark.new.writer t v.number
    (begun g.N.Namer.id_of w law t v.number c.args.writer.now c.mark.new.writer c.in-Ok.ensures.adds) c.requires.mine

pub returns-in-Ok-clause-adds : goal.returns-in-Ok-clause-adds
returns-in-Ok-clause-adds g c =
    let v = c.args.visit.now in
    let t = attempt_of v in
    let w = g.P.Destination.protocol c.args.destination.now in
    let law = g.met.P.Destination.lawful c.args.destination.now in
    on_as c.end_as.result
    (λ last. adds_then g.N.Namer.id_of w law (IsMarkOf t v.number) ((Ongoing, None) ∷ []) ((Failed, None) ∷ []) c.args.writer.now c.mark.new.writer c.end_as.new.writer
    (begun g.N.Namer.id_of w law t v.number c.args.writer.now c.mark.new.writer c.in-Ok.ensures.adds) last) c.end_as.ensures.adds

pub returns-in-Ok-clause-stops : goal.returns-in-Ok-clause-stops
returns-in-Ok-clause-stops g c =
    let v = c.args.visit.now in
    let t = attempt_of v in
    let w = g.P.Destination.protocol c.args.destination.now in
    let law = g.met.P.Destination.lawful c.args.destination.now in
    err_as c.end_as.result (StopsNow g.N.Namer.id_of w (IsMarkAsked t v.number) c.mark.new.writer c.end_as.new.writer) (StopsUnended g.N.Namer.id_of w (IsMarkOf t v.number) (IsMarkAsked t v.number) c.args.writer.now c.end_as.new.writer)
    (λ why stops. begun_stops g.N.Namer.id_of w law (IsMarkOf t v.number) (IsMarkAsked t v.number) c.args.writer.now c.mark.new.writer c.end_as.new.writer why
    (begun g.N.Namer.id_of w law t v.number c.args.writer.now c.mark.new.writer c.in-Ok.ensures.adds) stops) c.end_as.ensures.stops

pub returns-in-Err-clause-stops : goal.returns-in-Err-clause-stops
returns-in-Err-clause-stops g c =
    let v = c.args.visit.now in
    not_begun g.N.Namer.id_of (g.P.Destination.protocol c.args.destination.now) (g.met.P.Destination.lawful c.args.destination.now) (attempt_of v) v.number c.args.writer.now c.mark.new.writer c.in-Err.why c.requires.ready c.in-Err.ensures.stops
