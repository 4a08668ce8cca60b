use Rattle.swh_recovery.proofs.OneHarm.{no_history}
use Rattle.swh_recovery.proofs.laws.harms_leave_no_history.Goals as goal

pub returns : goal.returns
returns c id_of ledger store file at harm before h is stands history = no_history id_of ledger store file at harm before h is stands history
