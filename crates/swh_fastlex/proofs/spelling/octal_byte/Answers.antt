use Rattle.std.proofs.Common.{arith}
use Rattle.swh_fastlex.proofs.Pieces.{octal_front}
use Rattle.swh_fastlex.proofs.spelling.octal_byte.Goals as goal

pub returns-clause-some : goal.returns-clause-some
returns-clause-some c = octal_front c.args.text.now (omega arith) (omega arith) (omega arith) (omega arith) (omega arith) (omega arith) (omega arith)
