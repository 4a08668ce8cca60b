use Rattle.swh_base.specs.Namer.{byte_id}
use Rattle.swh_ingest.proofs.Wholes.{reaches_at_once}
use Rattle.swh_loader_tests.proofs.walks.load_made.Goals as goal

pub load_parts-requires-clause-whole : goal.load_parts-requires-clause-whole
load_parts-requires-clause-whole g c κs within = λ objects snapshot now gave. reaches_at_once byte_id _ (λ i now x w. w) _ objects snapshot now gave
