use Rattle.std.proofs.Common.{[], refl}
use Rattle.std.specs.Prelude.{Result, Ok}
use Rattle.swh_base.specs.declared.kind.Kind.TheVariants.{Content, Directory, Revision as RevisionKind, Release as ReleaseKind, Snapshot}
use Rattle.swh_carried.specs.declared.fault.CookFault.{CookFault}
use Rattle.swh_fastwrite.specs.Held.{kept}
use Rattle.swh_fastwrite.proofs.Pieces.{goes_none}
use Rattle.swh_fastcook.proofs.ObjectTexts.{wrote_kind}
use Rattle.swh_fastcook.proofs.objects.write_object.Goals as goal

pub returns-in-Content-clause-bytes : goal.returns-in-Content-clause-bytes
returns-in-Content-clause-bytes g c =
    wrote_kind (g.L.Look.archive c.args.look.now).bodies c.args.marks.now c.args.name g.T.Taker.takes g.T.Taker.takes_front (kept c.args.taker.now c.args.held.now.items) (kept c.write_content.new.taker c.write_content.new.held.items) c.write_content.result
    Content c.in-Content.is c.write_content.ensures.bytes

pub returns-in-Revision-clause-bytes : goal.returns-in-Revision-clause-bytes
returns-in-Revision-clause-bytes g c =
    wrote_kind (g.L.Look.archive c.args.look.now).bodies c.args.marks.now c.args.name g.T.Taker.takes g.T.Taker.takes_front (kept c.args.taker.now c.args.held.now.items) (kept c.write_revision.new.taker c.write_revision.new.held.items) c.write_revision.result
    RevisionKind c.in-Revision.is c.write_revision.ensures.bytes

pub returns-in-Release-clause-bytes : goal.returns-in-Release-clause-bytes
returns-in-Release-clause-bytes g c =
    wrote_kind (g.L.Look.archive c.args.look.now).bodies c.args.marks.now c.args.name g.T.Taker.takes g.T.Taker.takes_front (kept c.args.taker.now c.args.held.now.items) (kept c.write_release.new.taker c.write_release.new.held.items) c.write_release.result
    ReleaseKind c.in-Release.is c.write_release.ensures.bytes

pub returns-in-Directory-clause-bytes : goal.returns-in-Directory-clause-bytes
returns-in-Directory-clause-bytes g c =
    let old = kept c.args.taker.now c.args.held.now.items in
    let done : Result (Unit {0}) CookFault = Ok tt in
    wrote_kind (g.L.Look.archive c.args.look.now).bodies c.args.marks.now c.args.name g.T.Taker.takes g.T.Taker.takes_front old old done Directory c.in-Directory.is
    (record { ok = ([], refl, goes_none g.T.Taker.takes g.T.Taker.takes_front g.met.T.Taker.adds_up old); err = tt })

pub returns-in-Snapshot-clause-bytes : goal.returns-in-Snapshot-clause-bytes
returns-in-Snapshot-clause-bytes g c =
    let old = kept c.args.taker.now c.args.held.now.items in
    let done : Result (Unit {0}) CookFault = Ok tt in
    wrote_kind (g.L.Look.archive c.args.look.now).bodies c.args.marks.now c.args.name g.T.Taker.takes g.T.Taker.takes_front old old done Snapshot c.in-Snapshot.is
    (record { ok = ([], refl, goes_none g.T.Taker.takes g.T.Taker.takes_front g.met.T.Taker.adds_up old); err = tt })
