use Rattle.std.proofs.Common.{refl}
use Rattle.swh_model.proofs.stepping.is_taken.Goals as goal

pub returns-in-Some : goal.returns-in-Some
returns-in-Some c = (λ _. (c.in-Some.field-0.now.body, c.in-Some.ensures.some c.args.state.now.bodies), λ _. refl)
