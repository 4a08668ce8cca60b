use Rattle.std.proofs.Common.{inl, None, [], ◌∷◌, refl}
use Rattle.swh_base.specs.declared.visit.Status.TheVariants.{Ongoing, NotFound as NotFoundStatus, Failed}
use Rattle.swh_ingest.specs.Knowing.{held_in}
use Rattle.swh_ingest.specs.declared.end.End.TheVariants.{NotFound, Unread}
use Rattle.swh_ingest.specs.declared.stop.Stop.TheVariants.{Memory}
use Rattle.swh_ingest.specs.Owning.{attempt_of}
use Rattle.swh_ingest.specs.Ending.{IsMarkOf, IsMarkAsked}
use Rattle.swh_ingest.specs.Loading.{IsOwn, IsOwnAsked, StopsUnended, last_at, statuses_of}
use Rattle.swh_ingest.specs.Visiting.{HasLast}
use Rattle.swh_ingest.specs.Walking.{Adds, StopsNow}
use Rattle.swh_ingest.specs.Parts.{AreAllowed, AreGiven}
use Rattle.swh_ingest.proofs.Loads.{err_all, err_as, marks_own, now_own, ok_as, on_as, own_as, own_asked_as, told_so, unended_as, unended_now, unended_own}
use Rattle.swh_ingest.proofs.Owned.{allowed_found, end_absent, end_found, end_unread, same_found}
use Rattle.swh_ingest.proofs.Steps.{adds_as}
use Rattle.swh_ingest.proofs.loading_parts.load_opened.Goals as goal

pub load_found-requires-clause-takes : goal.load_found-requires-clause-takes
load_found-requires-clause-takes g c κs within = c.requires.takes c.in-Found.is

pub returns-in-Found-clause-end : goal.returns-in-Found-clause-end
returns-in-Found-clause-end g c =
    let job = c.args.job.now in
    end_found (g.R.ReadsParts.gives job.read) job.opening c.load_found.result (held_in ((g.P.Destination.protocol c.args.destination.now).known c.load_found.new.writer)) c.args.input.now c.load_found.new.input c.in-Found.is c.load_found.ensures.end

pub returns-in-Found-clause-adds : goal.returns-in-Found-clause-adds
returns-in-Found-clause-adds g c =
    let job = c.args.job.now in
    let v = c.args.task.now.visit in
    let t = attempt_of v in
    let w = g.P.Destination.protocol c.args.destination.now in
    let A = AreGiven (g.R.ReadsParts.gives job.read) c.args.input.now in
    let B = AreAllowed (g.R.ReadsParts.gives job.read) job.opening c.args.input.now in
    let a = c.args.writer.now in
    let b = c.load_found.new.writer in
    ok_as c.load_found.result (λ end. Adds w (IsOwn w.alone A t v.number) (statuses_of end) a b) (λ end. Adds w (IsOwn w.alone B t v.number) (statuses_of end) a b)
    (λ end h. adds_as g.N.Namer.id_of w (g.met.P.Destination.lawful c.args.destination.now) (IsOwn w.alone A t v.number) (IsOwn w.alone B t v.number) (statuses_of end) a b (own_as w A B t v.number (allowed_found (g.R.ReadsParts.gives job.read) job.opening c.args.input.now c.in-Found.is)) h) c.load_found.ensures.adds

pub returns-in-Found-clause-stops : goal.returns-in-Found-clause-stops
returns-in-Found-clause-stops g c =
    let job = c.args.job.now in
    let v = c.args.task.now.visit in
    let t = attempt_of v in
    let id = g.N.Namer.id_of in
    let w = g.P.Destination.protocol c.args.destination.now in
    let A = AreGiven (g.R.ReadsParts.gives job.read) c.args.input.now in
    let B = AreAllowed (g.R.ReadsParts.gives job.read) job.opening c.args.input.now in
    let f = allowed_found (g.R.ReadsParts.gives job.read) job.opening c.args.input.now c.in-Found.is in
    let a = c.args.writer.now in
    let b = c.load_found.new.writer in
    err_as c.load_found.result (StopsUnended id w (IsOwn w.alone A t v.number) (IsOwnAsked A t v.number) a b) (StopsUnended id w (IsOwn w.alone B t v.number) (IsOwnAsked B t v.number) a b)
    (λ why h. unended_as id w (g.met.P.Destination.lawful c.args.destination.now) (IsOwn w.alone A t v.number) (IsOwn w.alone B t v.number) (IsOwnAsked A t v.number) (IsOwnAsked B t v.number) a b why (own_as w A B t v.number f) (own_asked_as A B t v.number f) h) c.load_found.ensures.stops

pub returns-in-Found-clause-input : goal.returns-in-Found-clause-input
returns-in-Found-clause-input g c =
    let job = c.args.job.now in
    same_found (g.R.ReadsParts.gives job.read) job.opening c.args.input.now c.load_found.new.input c.in-Found.is c.load_found.ensures.input

pub returns-in-NotFound-clause-end : goal.returns-in-NotFound-clause-end
returns-in-NotFound-clause-end g c =
    let job = c.args.job.now in
    end_absent (g.R.ReadsParts.gives job.read) job.opening c.end_as.result (held_in ((g.P.Destination.protocol c.args.destination.now).known c.end_as.new.writer)) c.args.input.now c.in-NotFound.is c.end_as.ensures.is

pub returns-in-NotFound-clause-last : goal.returns-in-NotFound-clause-last
returns-in-NotFound-clause-last g c =
    let v = c.args.task.now.visit in
    told_so c.end_as.result NotFound (λ end. HasLast ((g.P.Destination.protocol c.args.destination.now).known c.end_as.new.writer).front (attempt_of v) v.number (last_at end)) c.end_as.ensures.is c.end_as.ensures.last

pub returns-in-NotFound-clause-adds : goal.returns-in-NotFound-clause-adds
returns-in-NotFound-clause-adds g c =
    let job = c.args.job.now in
    let v = c.args.task.now.visit in
    let t = attempt_of v in
    let w = g.P.Destination.protocol c.args.destination.now in
    let B = AreAllowed (g.R.ReadsParts.gives job.read) job.opening c.args.input.now in
    told_so c.end_as.result NotFound (λ end. Adds w (IsOwn w.alone B t v.number) (statuses_of end) c.args.writer.now c.end_as.new.writer) c.end_as.ensures.is
    (on_as c.end_as.result (λ h. marks_own g.N.Namer.id_of w (g.met.P.Destination.lawful c.args.destination.now) t v.number B ((NotFoundStatus, None) ∷ []) c.args.writer.now c.end_as.new.writer h) c.end_as.ensures.adds)

pub returns-in-NotFound-clause-stops : goal.returns-in-NotFound-clause-stops
returns-in-NotFound-clause-stops g c =
    let job = c.args.job.now in
    let v = c.args.task.now.visit in
    let t = attempt_of v in
    let id = g.N.Namer.id_of in
    let w = g.P.Destination.protocol c.args.destination.now in
    let law = g.met.P.Destination.lawful c.args.destination.now in
    let B = AreAllowed (g.R.ReadsParts.gives job.read) job.opening c.args.input.now in
    let a = c.args.writer.now in
    let b = c.end_as.new.writer in
    err_as c.end_as.result (StopsNow id w (IsMarkAsked t v.number) a b) (StopsUnended id w (IsOwn w.alone B t v.number) (IsOwnAsked B t v.number) a b)
    (λ why h. unended_now id w law (IsOwn w.alone B t v.number) (IsOwnAsked B t v.number) a b why c.requires.ready (now_own id w law t v.number B a b why h)) c.end_as.ensures.stops

pub returns-in-NotFound-clause-input : goal.returns-in-NotFound-clause-input
returns-in-NotFound-clause-input g c = inl refl

pub returns-in-Failed-clause-end : goal.returns-in-Failed-clause-end
returns-in-Failed-clause-end g c =
    let job = c.args.job.now in
    end_unread (g.R.ReadsParts.gives job.read) job.opening c.end_unread.result (held_in ((g.P.Destination.protocol c.args.destination.now).known c.end_unread.new.writer)) c.args.input.now c.in-Failed.is c.end_unread.ensures.is

pub returns-in-Failed-clause-last : goal.returns-in-Failed-clause-last
returns-in-Failed-clause-last g c =
    let v = c.args.task.now.visit in
    told_so c.end_unread.result Unread (λ end. HasLast ((g.P.Destination.protocol c.args.destination.now).known c.end_unread.new.writer).front (attempt_of v) v.number (last_at end)) c.end_unread.ensures.is c.end_unread.ensures.last

pub returns-in-Failed-clause-adds : goal.returns-in-Failed-clause-adds
returns-in-Failed-clause-adds g c =
    let job = c.args.job.now in
    let v = c.args.task.now.visit in
    let t = attempt_of v in
    let w = g.P.Destination.protocol c.args.destination.now in
    let B = AreAllowed (g.R.ReadsParts.gives job.read) job.opening c.args.input.now in
    told_so c.end_unread.result Unread (λ end. Adds w (IsOwn w.alone B t v.number) (statuses_of end) c.args.writer.now c.end_unread.new.writer) c.end_unread.ensures.is
    (on_as c.end_unread.result (λ h. marks_own g.N.Namer.id_of w (g.met.P.Destination.lawful c.args.destination.now) t v.number B ((Ongoing, None) ∷ (Failed, None) ∷ []) c.args.writer.now c.end_unread.new.writer h) c.end_unread.ensures.adds)

pub returns-in-Failed-clause-stops : goal.returns-in-Failed-clause-stops
returns-in-Failed-clause-stops g c =
    let job = c.args.job.now in
    let v = c.args.task.now.visit in
    let t = attempt_of v in
    let id = g.N.Namer.id_of in
    let w = g.P.Destination.protocol c.args.destination.now in
    let B = AreAllowed (g.R.ReadsParts.gives job.read) job.opening c.args.input.now in
    let a = c.args.writer.now in
    let b = c.end_unread.new.writer in
    err_as c.end_unread.result (StopsUnended id w (IsMarkOf t v.number) (IsMarkAsked t v.number) a b) (StopsUnended id w (IsOwn w.alone B t v.number) (IsOwnAsked B t v.number) a b)
    (λ why h. unended_own id w (g.met.P.Destination.lawful c.args.destination.now) t v.number B a b why h) c.end_unread.ensures.stops

pub returns-in-Failed-clause-input : goal.returns-in-Failed-clause-input
returns-in-Failed-clause-input g c = inl refl

pub returns-in-Memory-clause-stops : goal.returns-in-Memory-clause-stops
returns-in-Memory-clause-stops g c =
    let job = c.args.job.now in
    let v = c.args.task.now.visit in
    let t = attempt_of v in
    let w = g.P.Destination.protocol c.args.destination.now in
    let B = AreAllowed (g.R.ReadsParts.gives job.read) job.opening c.args.input.now in
    unended_now g.N.Namer.id_of w (g.met.P.Destination.lawful c.args.destination.now) (IsOwn w.alone B t v.number) (IsOwnAsked B t v.number) c.args.writer.now c.args.writer.now Memory c.requires.ready (inl (refl, refl))

pub returns-in-Memory-clause-input : goal.returns-in-Memory-clause-input
returns-in-Memory-clause-input g c = inl refl

pub returns-in-NotFound-clause-heard : goal.returns-in-NotFound-clause-heard
returns-in-NotFound-clause-heard g c = err_all c.end_as.result _ (λ why. inl (inl refl))

pub returns-in-Failed-clause-heard : goal.returns-in-Failed-clause-heard
returns-in-Failed-clause-heard g c = err_all c.end_unread.result _ (λ why. inl (inl refl))

pub returns-in-Memory-clause-heard : goal.returns-in-Memory-clause-heard
returns-in-Memory-clause-heard g c = inl (inl refl)
