use Rattle.swh_dircook.proofs.DotNames.{dots_of, no_dots}
use Rattle.swh_dircook.proofs.names.rule_of_names.Goals as goal

pub returns-in-Some : goal.returns-in-Some
returns-in-Some c = (c.in-Some.field-0, c.in-Some.ensures.some.0, dots_of c.in-Some.field-0.name.now c.in-Some.ensures.some.1)

pub returns-in-Some-first_other : goal.returns-in-Some-first_other
returns-in-Some-first_other c =
    (λ h. no_dots h.0.name.now (c.in-None.ensures.none h.0 h.1) h.2, (c.in-Some-first_other.field-0, c.in-Some-first_other.ensures.some.0, c.in-Some-first_other.ensures.some.1))

pub returns-in-None-first_other : goal.returns-in-None-first_other
returns-in-None-first_other c = (λ h. no_dots h.0.name.now (c.in-None.ensures.none h.0 h.1) h.2, λ h. h.2 (c.in-None-first_other.ensures.none h.0 h.1))
