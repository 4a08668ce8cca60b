use Rattle.swh_fastgrammar.proofs.Examples.{quoted, plain}
use Rattle.swh_fastgrammar.proofs.worked.octal_path.Goals as goal

pub returns-clause-quoted : goal.returns-clause-quoted
returns-clause-quoted c = quoted

pub returns-clause-plain : goal.returns-clause-plain
returns-clause-plain c = plain
