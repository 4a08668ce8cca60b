use Rattle.swh_swhid.proofs.KindWords.{kind_breaks}
use Rattle.swh_swhid.proofs.identifier.kind_of.Goals as goal

pub returns-else-snapshot-eq4-clause-err : goal.returns-else-snapshot-eq4-clause-err
returns-else-snapshot-eq4-clause-err c =
    rw (c.max-else-snapshot-eq4-3.ensures, c.max-else-snapshot-eq4-2.ensures, c.max-else-snapshot-eq4.ensures, c.max.ensures)
    (kind_breaks c.args.place c.args.text.now _ _ _ _ _ c.along-content.ensures c.along-directory.ensures c.along-revision.ensures c.along-release.ensures c.along-snapshot.ensures c.if-content-eq4.false c.if-directory-eq4.false c.if-revision-eq4.false c.if-release-eq4.false c.if-snapshot-eq4.false)
