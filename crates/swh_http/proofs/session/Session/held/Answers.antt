use Rattle.std.proofs.Common.{◌≡◌, Some, arith}
use Rattle.swh_http.specs.Turn.{held_of}
use Rattle.swh_http.proofs.Turns.{ready-few, ready-waits}
use Rattle.swh_http.proofs.session.Session.held.Goals as goal

pub returns-clause-waits : goal.returns-clause-waits
returns-clause-waits c = λ held is.
    let view = c.self.view_is in
    let same : held_of c.self.inside.state ≡ Some held = cc in
    ready-waits c.self.inside.state held c.self.invariant same

pub returns-clause-few : goal.returns-clause-few
returns-clause-few c = omega (arith, c.waiting_bytes.ensures, ready-few c.self.inside.state c.self.invariant)
