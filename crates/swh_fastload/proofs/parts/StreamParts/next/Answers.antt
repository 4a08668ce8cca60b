use Rattle.std.proofs.Common.{sym, subst}
use Rattle.swh_fastload.specs.Giving.{GoesOn, StreamState}
use Rattle.swh_fastload.proofs.parts.StreamParts.next.Goals as goal

pub returns-clause-given : goal.returns-clause-given
returns-clause-given g c = λ text faults path given h. c.next_part.ensures.given text faults path given (subst (λ (s : StreamState). GoesOn g.N.Namer.id_of g.S.Source.tells text faults path given s) (sym c.self.view_is) h)

pub returns-clause-err : goal.returns-clause-err
returns-clause-err g c = λ text faults path given h. c.next_part.ensures.err text faults path given (subst (λ (s : StreamState). GoesOn g.N.Namer.id_of g.S.Source.tells text faults path given s) (sym c.self.view_is) h)
