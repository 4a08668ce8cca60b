use Rattle.swh_keeper.proofs.DamageLemmas.{damage_is_damaged}
use Rattle.swh_keeper.proofs.damage.damaged_files_have_no_history.Goals as goal

pub returns : goal.returns
returns c id_of ledger store file at harm d = damage_is_damaged id_of ledger store file at harm d
