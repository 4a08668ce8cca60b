use Rattle.std.proofs.Common.{arith, refl, codes}
use Rattle.swh_fastlines.proofs.limits.ref_place.Goals as goal

pub returns-in-Some-clause-some : goal.returns-in-Some-clause-some
returns-in-Some-clause-some c = (codes "commit ", (0, omega arith, refl), c.in-Some.ensures.some)

pub returns-in-Some-behind-clause-some : goal.returns-in-Some-behind-clause-some
returns-in-Some-behind-clause-some c = (codes "reset ", (1, omega arith, refl), c.in-Some-behind.ensures.some)

pub returns-in-Some-behind-2-clause-some : goal.returns-in-Some-behind-2-clause-some
returns-in-Some-behind-2-clause-some c = (codes "from ", (2, omega arith, refl), c.in-Some-behind-2.ensures.some)

pub returns-in-Some-behind-3-clause-some : goal.returns-in-Some-behind-3-clause-some
returns-in-Some-behind-3-clause-some c = (codes "merge ", (3, omega arith, refl), c.in-Some-behind-3.ensures.some)

pub returns-in-Some-behind-4-clause-some : goal.returns-in-Some-behind-4-clause-some
returns-in-Some-behind-4-clause-some c = (codes "tag ", (4, omega arith, refl), c.in-Some-behind-4.ensures.some)
