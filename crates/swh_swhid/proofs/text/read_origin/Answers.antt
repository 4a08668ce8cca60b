use Rattle.std.proofs.Common.{◌∙◌, sym, ℕ, List, length}
use Rattle.std.specs.Prelude.{Result, Ok, Err, IfErr}
use Rattle.std.proofs.lemmas.Bool.{eqb-true}
use Rattle.swh_swhid.specs.Front.{BreaksAt}
use Rattle.swh_swhid.specs.Text.{IsText, IsOriginText}
use Rattle.swh_swhid.proofs.Texts.{empty_origin, origin_breaks}
use Rattle.swh_swhid.proofs.text.read_origin.Goals as goal

breaks : (text : List ℕ) (r : Result (Unit {0}) ℕ) → IfErr r (BreaksAt IsText text) → IfErr r (BreaksAt IsOriginText text)
breaks text (Ok done) h = tt
breaks text (Err n) h = origin_breaks text n h

pub returns-then-is_empty-clause-err : goal.returns-then-is_empty-clause-err
returns-then-is_empty-clause-err c = empty_origin c.args.text.now (eqb-true (length c.args.text.now) 0 (sym c.is_empty.ensures ∙ c.if-is_empty.true))

pub returns-clause-err : goal.returns-clause-err
returns-clause-err c = breaks c.args.text.now c.read_text.result c.read_text.ensures.err
