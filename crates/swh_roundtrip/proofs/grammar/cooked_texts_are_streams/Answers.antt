use Rattle.swh_roundtrip.proofs.Carried.{is_stream}
use Rattle.swh_roundtrip.proofs.grammar.cooked_texts_are_streams.Goals as goal

pub returns : goal.returns
returns c bodies children_of root order text in_limit of_bytes graph is_order carried t short = is_stream bodies children_of graph root order is_order ⊥ ⊥ carried in_limit of_bytes text t short
