use Rattle.swh_core.proofs.Runs.{went}
use Rattle.swh_core.proofs.laws.runs_keep_worlds.Goals as goal

pub returns : goal.returns
returns c = record {
  kept = λ id_of w w' steps r k meant run. (went id_of steps r w w' k meant run).kept;
  later = λ id_of w w' steps r k meant run. (went id_of steps r w w' k meant run).later;
}
