use Rattle.std.proofs.Common.{◌≡◌, None, [], ◌∷◌, refl, subst, sym}
use Rattle.swh_base.specs.declared.visit.Status.TheVariants.{Ongoing, Failed}
use Rattle.swh_model.specs.declared.event.Wish.TheVariants as wished
use Rattle.swh_ingest.specs.declared.end.End.TheVariants.{Bad, Met}
use Rattle.swh_ingest.specs.Owning.{IsWished, attempt_of}
use Rattle.swh_ingest.specs.Ending.{IsMarkOf, IsMarkAsked}
use Rattle.swh_ingest.specs.Loading.{StopsFailing, last_at, statuses_of}
use Rattle.swh_ingest.specs.Parts.{IfBad, end_of}
use Rattle.swh_ingest.specs.Visiting.{HasLast}
use Rattle.swh_ingest.specs.Walking.{Adds, StopsNow, StopsAfter}
use Rattle.swh_ingest.proofs.Loads.{err_all, err_as, ok_as, told_so}
use Rattle.swh_ingest.proofs.Steps.{after_now}
use Rattle.swh_ingest.proofs.loading_parts.end_sent.Goals as goal

pub end_full-requires-clause-closed : goal.end_full-requires-clause-closed
end_full-requires-clause-closed g c κs within = rw c.in-All.is at c.requires.closed

pub returns-in-Met-clause-is : goal.returns-in-Met-clause-is
returns-in-Met-clause-is g c = ok_as c.end_as.result (λ t. t ≡ Met c.in-Met.name) (λ t. t ≡ end_of c.args.sent) (λ t e. subst (λ s. t ≡ end_of s) (sym c.in-Met.is) e) c.end_as.ensures.is

pub returns-in-Met-clause-last : goal.returns-in-Met-clause-last
returns-in-Met-clause-last g c =
    let v = c.args.visit.now in
    told_so c.end_as.result (Met c.in-Met.name) (λ end. HasLast ((g.P.Destination.protocol c.args.destination.now).known c.end_as.new.writer).front (attempt_of v) v.number (last_at end)) c.end_as.ensures.is c.end_as.ensures.last

pub returns-in-Met-clause-adds : goal.returns-in-Met-clause-adds
returns-in-Met-clause-adds g c =
    let v = c.args.visit.now in
    let w = g.P.Destination.protocol c.args.destination.now in
    told_so c.end_as.result (Met c.in-Met.name) (λ end. Adds w (IsMarkOf (attempt_of v) v.number) (last_at end ∷ []) c.args.writer.now c.end_as.new.writer) c.end_as.ensures.is c.end_as.ensures.adds

pub returns-in-Met-clause-ongoing : goal.returns-in-Met-clause-ongoing
returns-in-Met-clause-ongoing g c =
    ok_as c.end_as.result (λ t. t ≡ Met c.in-Met.name) (λ end. statuses_of end ≡ (Ongoing, None) ∷ (last_at end ∷ [])) (λ t e. subst (λ x. statuses_of x ≡ (Ongoing, None) ∷ (last_at x ∷ [])) (sym e) refl) c.end_as.ensures.is

pub returns-in-Met-clause-stops : goal.returns-in-Met-clause-stops
returns-in-Met-clause-stops g c =
    let v = c.args.visit.now in
    let t = attempt_of v in
    let id = g.N.Namer.id_of in
    let w = g.P.Destination.protocol c.args.destination.now in
    let b = c.end_as.new.writer in
    err_as c.end_as.result (StopsNow id w (IsMarkAsked t v.number) c.args.writer.now b) (StopsAfter id w (IsMarkOf t v.number) (IsMarkAsked t v.number) [] c.args.writer.now b)
    (λ why stops. after_now id w (g.met.P.Destination.lawful c.args.destination.now) (IsMarkOf t v.number) (IsMarkAsked t v.number) c.args.writer.now b why c.requires.ready stops) c.end_as.ensures.stops

pub returns-in-Bad-clause-is : goal.returns-in-Bad-clause-is
returns-in-Bad-clause-is g c = ok_as c.end_as-in-Bad.result (λ t. t ≡ Bad c.in-Bad.bad) (λ t. t ≡ end_of c.args.sent) (λ t e. subst (λ s. t ≡ end_of s) (sym c.in-Bad.is) e) c.end_as-in-Bad.ensures.is

pub returns-in-Bad-clause-last : goal.returns-in-Bad-clause-last
returns-in-Bad-clause-last g c =
    let v = c.args.visit.now in
    told_so c.end_as-in-Bad.result (Bad c.in-Bad.bad) (λ end. HasLast ((g.P.Destination.protocol c.args.destination.now).known c.end_as-in-Bad.new.writer).front (attempt_of v) v.number (last_at end)) c.end_as-in-Bad.ensures.is c.end_as-in-Bad.ensures.last

pub returns-in-Bad-clause-adds : goal.returns-in-Bad-clause-adds
returns-in-Bad-clause-adds g c =
    let v = c.args.visit.now in
    let w = g.P.Destination.protocol c.args.destination.now in
    told_so c.end_as-in-Bad.result (Bad c.in-Bad.bad) (λ end. Adds w (IsMarkOf (attempt_of v) v.number) (last_at end ∷ []) c.args.writer.now c.end_as-in-Bad.new.writer) c.end_as-in-Bad.ensures.is c.end_as-in-Bad.ensures.adds

pub returns-in-Bad-clause-ongoing : goal.returns-in-Bad-clause-ongoing
returns-in-Bad-clause-ongoing g c =
    ok_as c.end_as-in-Bad.result (λ t. t ≡ Bad c.in-Bad.bad) (λ end. statuses_of end ≡ (Ongoing, None) ∷ (last_at end ∷ [])) (λ t e. subst (λ x. statuses_of x ≡ (Ongoing, None) ∷ (last_at x ∷ [])) (sym e) refl) c.end_as-in-Bad.ensures.is

pub returns-in-Bad-clause-stops : goal.returns-in-Bad-clause-stops
returns-in-Bad-clause-stops g c =
    let v = c.args.visit.now in
    let t = attempt_of v in
    let id = g.N.Namer.id_of in
    let w = g.P.Destination.protocol c.args.destination.now in
    let b = c.end_as-in-Bad.new.writer in
    err_as c.end_as-in-Bad.result (StopsNow id w (IsMarkAsked t v.number) c.args.writer.now b) (StopsAfter id w (IsMarkOf t v.number) (IsMarkAsked t v.number) [] c.args.writer.now b)
    (λ why stops. after_now id w (g.met.P.Destination.lawful c.args.destination.now) (IsMarkOf t v.number) (IsMarkAsked t v.number) c.args.writer.now b why c.requires.ready stops) c.end_as-in-Bad.ensures.stops

pub returns-in-Met-clause-failing : goal.returns-in-Met-clause-failing
returns-in-Met-clause-failing g c =
    let v = c.args.visit.now in
    let F = StopsFailing g.N.Namer.id_of (g.P.Destination.protocol c.args.destination.now) (attempt_of v) v.number c.end_as.new.writer in
    err_all c.end_as.result (λ why. IfBad c.args.sent (F why)) (λ why. subst (λ s. IfBad s (F why)) (sym c.in-Met.is) tt)

pub returns-in-Bad-clause-failing : goal.returns-in-Bad-clause-failing
returns-in-Bad-clause-failing g c =
    let v = c.args.visit.now in
    let t = attempt_of v in
    let id = g.N.Namer.id_of in
    let w = g.P.Destination.protocol c.args.destination.now in
    let b = c.end_as-in-Bad.new.writer in
    err_as c.end_as-in-Bad.result (StopsNow id w (IsWished (wished.Mark t.origin v.number Failed None)) c.args.writer.now b) (λ why. IfBad c.args.sent (StopsFailing id w t v.number b why))
    (λ why stops. subst (λ s. IfBad s (StopsFailing id w t v.number b why)) (sym c.in-Bad.is) (record { mid = c.args.writer.now; stops = stops })) c.end_as-in-Bad.ensures.stops_so
