use Rattle.swh_roundtrip.proofs.Reached.{reached_back}
use Rattle.swh_roundtrip.proofs.back.reached_streams_load_back.Goals as goal

pub returns : goal.returns
returns c = reached_back
