use Rattle.std.proofs.Common.{arith}
use Rattle.swh_fastcook.proofs.FileLengths.{id_digits}
use Rattle.swh_fastcook.proofs.weighed.project_bytes.Goals as goal

pub returns : goal.returns
returns c = id_digits c.args.id (omega arith)
