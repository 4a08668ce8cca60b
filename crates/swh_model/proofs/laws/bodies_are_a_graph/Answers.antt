use Rattle.swh_model.proofs.Graphs.{reaches-same, closed-same}
use Rattle.swh_model.proofs.laws.bodies_are_a_graph.Goals as goal

pub returns-clause-reached : goal.returns-clause-reached
returns-clause-reached c = λ bodies children_of from to is. reaches-same bodies children_of is from to

pub returns-clause-closed : goal.returns-clause-closed
returns-clause-closed c = λ bodies children_of root is. closed-same bodies children_of is root
