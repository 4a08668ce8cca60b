use Rattle.std.proofs.Common.{refl}
use Rattle.swh_fastcook.proofs.ends.has_revision.Goals as goal

pub returns-in-Some : goal.returns-in-Some
returns-in-Some c = (λ _. record { commit = c.in-Some.field-0; there = c.in-Some.ensures.some.0; kind = c.in-Some.ensures.some.1 }, λ _. refl)

pub returns-in-None : goal.returns-in-None
returns-in-None c = (λ is. cc, λ has. absurd (c.in-None.ensures.none has.commit has.there has.kind))
