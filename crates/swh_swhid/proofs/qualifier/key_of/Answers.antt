use Rattle.swh_swhid.proofs.KeyWords.{key_breaks}
use Rattle.swh_swhid.proofs.qualifier.key_of.Goals as goal

pub returns-else-bytes-eq6-clause-err : goal.returns-else-bytes-eq6-clause-err
returns-else-bytes-eq6-clause-err c =
    rw (c.max-else-bytes-eq6-4.ensures, c.max-else-bytes-eq6-3.ensures, c.max-else-bytes-eq6-2.ensures, c.max-else-bytes-eq6.ensures, c.max.ensures)
    (key_breaks c.args.swhid.now c.args.piece.now c.requires.0 _ _ _ _ _ _ c.requires.1 c.along-origin.ensures c.along-visit.ensures c.along-anchor.ensures c.along-path.ensures c.along-lines.ensures c.along-bytes.ensures c.if-origin-eq7.false c.if-visit-eq6.false c.if-anchor-eq7.false c.if-path-eq5.false c.if-lines-eq6.false c.if-bytes-eq6.false)
