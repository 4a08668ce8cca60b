use Rattle.std.proofs.Common.{◌⊎◌, inl, inr, None, [], ◌∷◌, refl}
use Rattle.swh_base.specs.declared.visit.Status.TheVariants.{Ongoing}
use Rattle.swh_ingest.specs.Owning.{attempt_of}
use Rattle.swh_ingest.specs.Ending.{IsMarkOf}
use Rattle.swh_ingest.specs.Loading.{IsOwn, IsOwnAsked, StopsFailing, StopsUnended}
use Rattle.swh_ingest.specs.Parts.{AreGiven, IsSameOrUnbroken, IsUnbroken}
use Rattle.swh_ingest.specs.Walking.{StopsAfter}
use Rattle.swh_ingest.proofs.Ends.{mine_on}
use Rattle.swh_ingest.proofs.InHand.{heard_on}
use Rattle.swh_ingest.proofs.Loads.{begun, begun_all, begun_own_stops, err_as, not_begun, unended_own}
use Rattle.swh_ingest.proofs.Steps.{adds_ready}
use Rattle.swh_ingest.proofs.loading_parts.load_found.Goals as goal

pub send_and_end-requires-clause-ready : goal.send_and_end-requires-clause-ready
send_and_end-requires-clause-ready g c κs within =
    let v = c.args.task.now.visit in
    let w = g.P.Destination.protocol c.args.destination.now in
    let law = g.met.P.Destination.lawful c.args.destination.now in
    adds_ready g.N.Namer.id_of w law (IsMarkOf (attempt_of v) v.number) ((Ongoing, None) ∷ []) c.args.writer.now c.mark.new.writer (begun g.N.Namer.id_of w law (attempt_of v) v.number c.args.writer.now c.mark.new.writer c.in-Ok.ensures.adds)

pub send_and_end-requires-clause-mine : goal.send_and_end-requires-clause-mine
send_and_end-requires-clause-mine g c κs within =
    let v = c.args.task.now.visit in
    let w = g.P.Destination.protocol c.args.destination.now in
    let law = g.met.P.Destination.lawful c.args.destination.now in
    mine_on g.N.Namer.id_of w law (IsMarkOf (attempt_of v) v.number) ((Ongoing, None) ∷ []) c.args.writer.now c.mark.new.writer (attempt_of v) v.number (begun g.N.Namer.id_of w law (attempt_of v) v.number c.args.writer.now c.mark.new.writer c.in-Ok.ensures.adds) c.requires.mine

pub returns-in-Ok-clause-adds : goal.returns-in-Ok-clause-adds
returns-in-Ok-clause-adds g c =
    let v = c.args.task.now.visit in
    let w = g.P.Destination.protocol c.args.destination.now in
    let law = g.met.P.Destination.lawful c.args.destination.now in
    let A = AreGiven (g.R.ReadsParts.gives c.args.read.now) c.args.input.now in
    begun_all g.N.Namer.id_of w law (attempt_of v) v.number A A c.args.writer.now c.mark.new.writer c.send_and_end.new.writer c.send_and_end.result (λ entries are. are) (begun g.N.Namer.id_of w law (attempt_of v) v.number c.args.writer.now c.mark.new.writer c.in-Ok.ensures.adds) c.send_and_end.ensures.ongoing c.send_and_end.ensures.adds

pub returns-in-Ok-clause-stops : goal.returns-in-Ok-clause-stops
returns-in-Ok-clause-stops g c =
    let v = c.args.task.now.visit in
    let t = attempt_of v in
    let id = g.N.Namer.id_of in
    let w = g.P.Destination.protocol c.args.destination.now in
    let law = g.met.P.Destination.lawful c.args.destination.now in
    let A = AreGiven (g.R.ReadsParts.gives c.args.read.now) c.args.input.now in
    let b = c.send_and_end.new.writer in
    err_as c.send_and_end.result (StopsAfter id w (IsOwn w.alone A t v.number) (IsOwnAsked A t v.number) [] c.mark.new.writer b) (StopsUnended id w (IsOwn w.alone A t v.number) (IsOwnAsked A t v.number) c.args.writer.now b)
    (λ why stops. begun_own_stops id w law t v.number A A c.args.writer.now c.mark.new.writer b why (λ entries are. are) (begun id w law t v.number c.args.writer.now c.mark.new.writer c.in-Ok.ensures.adds) stops) c.send_and_end.ensures.stops

pub returns-in-Ok-clause-input : goal.returns-in-Ok-clause-input
returns-in-Ok-clause-input g c = inr (record { found = refl; read = c.send_and_end.ensures.input })

pub returns-in-Err-clause-stops : goal.returns-in-Err-clause-stops
returns-in-Err-clause-stops g c =
    let v = c.args.task.now.visit in
    let w = g.P.Destination.protocol c.args.destination.now in
    let law = g.met.P.Destination.lawful c.args.destination.now in
    unended_own g.N.Namer.id_of w law (attempt_of v) v.number (AreGiven (g.R.ReadsParts.gives c.args.read.now) c.args.input.now) c.args.writer.now c.mark.new.writer c.in-Err.why (not_begun g.N.Namer.id_of w law (attempt_of v) v.number c.args.writer.now c.mark.new.writer c.in-Err.why c.requires.ready c.in-Err.ensures.stops)

pub returns-in-Err-clause-input : goal.returns-in-Err-clause-input
returns-in-Err-clause-input g c = inl refl

pub returns-in-Ok-clause-heard : goal.returns-in-Ok-clause-heard
returns-in-Ok-clause-heard g c =
    let v = c.args.task.now.visit in
    let i = c.args.input.now in
    let now = c.send_and_end.new.input in
    let gives = g.R.ReadsParts.gives c.args.read.now in
    let F = StopsFailing g.N.Namer.id_of (g.P.Destination.protocol c.args.destination.now) (attempt_of v) v.number c.send_and_end.new.writer in
    err_as c.send_and_end.result (λ why. IsUnbroken gives i now ⊎ F why) (λ why. IsSameOrUnbroken gives i now ⊎ F why) (λ why h. heard_on gives i now (F why) h) c.send_and_end.ensures.heard

pub returns-in-Err-clause-heard : goal.returns-in-Err-clause-heard
returns-in-Err-clause-heard g c = inl (inl refl)
