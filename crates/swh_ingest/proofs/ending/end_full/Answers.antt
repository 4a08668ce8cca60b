use Rattle.std.proofs.Common.{Some, []}
use Rattle.swh_base.specs.declared.visit.Status.TheVariants.{Full}
use Rattle.swh_ingest.specs.Ending.{IsMarkOf, IsMarkAsked}
use Rattle.swh_ingest.specs.Owning.{attempt_of}
use Rattle.swh_ingest.proofs.Ends.{mine_on, closed_on, marked_after, mark_stops_after}
use Rattle.swh_ingest.proofs.Steps.{adds_looks, after_looks}
use Rattle.swh_ingest.proofs.ending.end_full.Goals as goal

pub returns-in_default-clause-stops : goal.returns-in_default-clause-stops
returns-in_default-clause-stops g c =
    let v = c.args.visit.now in
    after_looks g.N.Namer.id_of (g.P.Destination.protocol c.args.destination.now) (g.met.P.Destination.lawful c.args.destination.now) (IsMarkOf (attempt_of v) v.number) (IsMarkAsked (attempt_of v) v.number) c.args.writer.now c.certify.new.writer c.certify.ensures.looks

pub mark-requires-clause-mine : goal.mark-requires-clause-mine
mark-requires-clause-mine g c κs within =
    let v = c.args.visit.now in
    let w = g.P.Destination.protocol c.args.destination.now in
    let law = g.met.P.Destination.lawful c.args.destination.now in
    let P = IsMarkOf (attempt_of v) v.number in
    mine_on g.N.Namer.id_of w law P [] c.args.writer.now c.certify.new.writer (attempt_of v) v.number (adds_looks g.N.Namer.id_of w law P c.args.writer.now c.certify.new.writer c.certify.ensures.looks) c.requires.mine

pub mark-requires-clause-allowed : goal.mark-requires-clause-allowed
mark-requires-clause-allowed g c κs within =
    let v = c.args.visit.now in
    let w = g.P.Destination.protocol c.args.destination.now in
    let law = g.met.P.Destination.lawful c.args.destination.now in
    let P = IsMarkOf (attempt_of v) v.number in
    closed_on g.N.Namer.id_of w law P [] c.args.writer.now c.certify.new.writer c.args.reached.snapshot (adds_looks g.N.Namer.id_of w law P c.args.writer.now c.certify.new.writer c.certify.ensures.looks) c.requires.closed

pub returns-in-Ok-mark-clause-adds : goal.returns-in-Ok-mark-clause-adds
returns-in-Ok-mark-clause-adds g c =
    let v = c.args.visit.now in
    let w = g.P.Destination.protocol c.args.destination.now in
    let law = g.met.P.Destination.lawful c.args.destination.now in
    let P = IsMarkOf (attempt_of v) v.number in
    marked_after g.N.Namer.id_of w law P (attempt_of v) v.number Full (Some c.args.reached.snapshot) c.args.writer.now c.certify.new.writer c.mark.new.writer (λ what is. is) (adds_looks g.N.Namer.id_of w law P c.args.writer.now c.certify.new.writer c.certify.ensures.looks) c.in-Ok-mark.ensures.adds

pub returns-in-Err-clause-stops : goal.returns-in-Err-clause-stops
returns-in-Err-clause-stops g c =
    let v = c.args.visit.now in
    let w = g.P.Destination.protocol c.args.destination.now in
    let law = g.met.P.Destination.lawful c.args.destination.now in
    let P = IsMarkOf (attempt_of v) v.number in
    mark_stops_after g.N.Namer.id_of w law P (IsMarkAsked (attempt_of v) v.number) (attempt_of v) v.number Full (Some c.args.reached.snapshot) c.args.writer.now c.certify.new.writer c.mark.new.writer c.in-Err.why (λ wish is. is) (adds_looks g.N.Namer.id_of w law P c.args.writer.now c.certify.new.writer c.certify.ensures.looks) c.in-Err.ensures.stops
