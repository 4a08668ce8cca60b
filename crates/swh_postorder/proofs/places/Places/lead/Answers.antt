use Rattle.std.proofs.Common.{refl}
use Rattle.swh_postorder.proofs.places.Places.lead.Goals as goal

pub returns-in-Some-clause-led : goal.returns-in-Some-clause-led
returns-in-Some-clause-led c = (λ _. (c.in-Some.field-0, (c.in-Some.ensures.led c.in-Some.field-0).0 refl), λ _. refl)

pub returns-in-None-clause-led : goal.returns-in-None-clause-led
returns-in-None-clause-led c = (λ is. absurd (cc), λ led. let found = (c.in-None.ensures.led led.0).1 led.1 in absurd (cc))
