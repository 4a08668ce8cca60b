use Rattle.swh_roundtrip.proofs.Carried.{are_made}
use Rattle.swh_roundtrip.proofs.meaning.objects_are_made_again.Goals as goal

pub returns : goal.returns
returns c id bodies children_of root order commands named graph is_order carried t = are_made bodies children_of graph root order is_order ⊥ ⊥ carried id named commands t
