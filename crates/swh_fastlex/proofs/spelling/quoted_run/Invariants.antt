use Rattle.std.proofs.Common.{length}
use Rattle.swh_fastlex.specs.Spelling.{ReadsPieces}
use Rattle.swh_fastlex.proofs.spelling.quoted_run.Given as goal

-- the pieces up to what is left spell the path so far
abbrev pub invariant-pieces : goal.invariant-pieces
invariant-pieces l = ReadsPieces l.pieces l.rest l.path.items

abbrev pub decreases-pieces : goal.decreases-pieces
decreases-pieces l = length l.rest
