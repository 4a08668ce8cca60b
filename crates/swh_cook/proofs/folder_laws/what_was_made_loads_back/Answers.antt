use Rattle.swh_cook.proofs.Law.{loads_back}
use Rattle.swh_cook.proofs.folder_laws.what_was_made_loads_back.Goals as goal

pub returns : goal.returns
returns c = loads_back
