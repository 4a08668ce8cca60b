use Rattle.swh_recovery.proofs.OneField.{record_whole}
use Rattle.swh_recovery.proofs.laws.an_event_does_not_break.Goals as goal

pub returns : goal.returns
returns c = record_whole
