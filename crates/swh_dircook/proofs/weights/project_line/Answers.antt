use Rattle.std.proofs.Common.{◌≡◌, length, arith}
use Rattle.swh_dircook.proofs.Sums.{project_length}
use Rattle.swh_dircook.proofs.weights.project_line.Goals as goal

pub returns : goal.returns
returns c = let twenty : length c.args._id.now ≡ 20 = omega arith in project_length c.args._id.now twenty
