use Rattle.swh_cook.proofs.Law.{made_loads_back}
use Rattle.swh_cook.proofs.folder_laws.made_folders_load_back.Goals as goal

pub returns : goal.returns
returns c = made_loads_back
