use Rattle.swh_roundtrip.proofs.LoadingBack.{loads_back}
use Rattle.swh_roundtrip.proofs.back.what_was_cooked_loads_back.Goals as goal

pub returns : goal.returns
returns c id bodies children_of root order text head named in_limit of_bytes graph no_content no_directory is_order carried t h = loads_back id bodies children_of graph root order is_order carried named in_limit of_bytes no_content no_directory text t head h
