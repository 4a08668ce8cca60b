use Rattle.std.proofs.Common.{◌≡◌, [], refl, arith}
use Rattle.swh_swhid.specs.Text.{IsTextBehind}
use Rattle.swh_swhid.specs.declared.text.Due.{Due}
use Rattle.swh_swhid.specs.declared.text.Due.TheVariants.{Nothing, Second, Both}
use Rattle.swh_swhid.proofs.Texts.{text_breaks, text_ends, text_read}
use Rattle.swh_swhid.proofs.text.read_text.Goals as goal

due_some : (due : Due) → (due ≡ Nothing → ⊥) → IsTextBehind due [] → ⊥
due_some Nothing ne h = ne refl
due_some Second ne h = h.0
due_some Both ne h = h.0

pub returns-in-None-clause-err : goal.returns-in-None-clause-err
returns-in-None-clause-err c = text_breaks c.args.text.now c.loop-i.i c.loop-i.due (omega arith) c.loop-i.invariant c.in-None.ensures.none

pub returns-in-Nothing-clause-ok : goal.returns-in-Nothing-clause-ok
returns-in-Nothing-clause-ok c = text_read c.args.text.now c.loop-i.i (omega arith) (rw c.in-Nothing.is at c.loop-i.invariant)

pub returns-in_default-clause-err : goal.returns-in_default-clause-err
returns-in_default-clause-err c = text_ends c.args.text.now c.loop-i.i c.loop-i.due (omega arith) c.loop-i.invariant (due_some c.loop-i.due c.in_default.not-Nothing)
