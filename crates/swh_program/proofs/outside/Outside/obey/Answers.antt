use Rattle.std.proofs.Common.{refl, sym, subst}
use Rattle.swh_words.proofs.Commands.{one_command}
use Rattle.swh_program.specs.Commands.{NeedsNoYard}
use Rattle.swh_program.proofs.Does.{came, nothing_came, comes_names}
use Rattle.swh_program.proofs.outside.Outside.obey.Goals as goal

pub returns-in-Ok-clause-refused : goal.returns-in-Ok-clause-refused
returns-in-Ok-clause-refused g c none = absurd (none _ c.in-Ok.ensures.ok)

pub returns-in-Ok-clause-untouched : goal.returns-in-Ok-clause-untouched
returns-in-Ok-clause-untouched g c none = absurd (none _ c.in-Ok.ensures.ok)

pub returns-in-Ok-clause-comes : goal.returns-in-Ok-clause-comes
returns-in-Ok-clause-comes g c wanted is = came _ wanted _ _ (one_command _ _ _ c.in-Ok.ensures.ok is) c.carry_out.ensures.comes

pub returns-in-Ok-clause-named : goal.returns-in-Ok-clause-named
returns-in-Ok-clause-named g c = comes_names _ _ _ c.carry_out.ensures.comes

pub returns-in-Err-Memory-clause-comes : goal.returns-in-Err-Memory-clause-comes
returns-in-Err-Memory-clause-comes g c wanted is = nothing_came _ _ _ _ refl refl refl refl refl wanted

pub returns-in-Ok-clause-yard : goal.returns-in-Ok-clause-yard
returns-in-Ok-clause-yard g c wanted is needs = c.carry_out.ensures.yard (subst NeedsNoYard (sym (one_command _ _ _ c.in-Ok.ensures.ok is)) needs)
