use Rattle.std.proofs.Common.{ℕ, sym, ◌∙◌, subst}
use Rattle.std.specs.Prelude.{IfErr}
use Rattle.std.specs.Option.{option_copied}
use Rattle.swh_fastload.specs.Giving.{BreaksOff}
use Rattle.swh_fastload.proofs.Givings.{meant_all, whole_all, stops_all}
use Rattle.swh_fastload.proofs.input.load_lent.Goals as goal

pub returns-clause-means : goal.returns-clause-means
returns-clause-means g c = λ told. meant_all g.N.Namer.id_of g.S.Source.tells (option_copied c.args.head) _ _ _ c.load_all.new.parts c.load_all.result (c.load_all.ensures.given _ _ _ c.new-parts.ensures) told

pub returns-clause-all : goal.returns-clause-all
returns-clause-all g c = whole_all g.N.Namer.id_of g.S.Source.tells (option_copied c.args.head) _ _ _ c.load_all.new.parts c.load_all.result (c.load_all.ensures.given _ _ _ c.new-parts.ensures)

pub returns-clause-stops : goal.returns-clause-stops
returns-clause-stops g c = λ told. stops_all g.N.Namer.id_of g.S.Source.tells (option_copied c.args.head) _ _ _ c.load_all.new.parts c.load_all.result (c.load_all.ensures.given _ _ _ c.new-parts.ensures) _ c.close.ensures.left told

pub returns-clause-quiet : goal.returns-clause-quiet
returns-clause-quiet g c = λ h. c.close.ensures.faults ∙ c.load_all.ensures.quiet h ∙ c.new-parts.ensures.quiet

pub returns-clause-breaks : goal.returns-clause-breaks
returns-clause-breaks g c = subst (λ (n : ℕ). IfErr c.load_all.result (BreaksOff g.N.Namer.id_of g.S.Source.tells (option_copied c.args.head) (g.S.Source.left c.args.source.now) (g.S.Source.faults c.args.source.now) n)) (sym c.close.ensures.faults) (c.load_all.ensures.err _ _ _ c.new-parts.ensures)
