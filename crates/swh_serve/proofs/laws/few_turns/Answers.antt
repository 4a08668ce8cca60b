use Rattle.std.proofs.Common.{◌≡◌, ◌+◌, ◌≤◌, length, arith}
use Rattle.swh_serve.specs.Turns.{requests_limit}
use Rattle.swh_serve.proofs.TurnLists.{few-turns}
use Rattle.swh_serve.proofs.laws.few_turns.Goals as goal

pub returns : goal.returns
returns g c = λ desk date turns s s' are.
    let few : 0 + length turns ≤ requests_limit = few-turns (g.A.Desk.protocol desk date) 0 turns s s' (omega arith) are in
    omega arith
