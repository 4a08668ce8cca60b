use Rattle.std.proofs.Common.{ℕ, [], inl, refl}
use Rattle.std.proofs.lemmas.Result.{IfOk-weaker}
use Rattle.swh_base.specs.declared.kind.Kind.{Kind}
use Rattle.swh_base.specs.declared.kind.Kind.TheVariants.{Content, Directory, Revision as RevisionKind, Release as ReleaseKind, Snapshot}
use Rattle.swh_fastcook.specs.Lengths.{HasLengthOf}
use Rattle.swh_fastcook.specs.Stream.{IsBlob, IsCommit, IsTag, IsObjectText}
use Rattle.swh_fastcook.proofs.Lengths.{of_kind}
use Rattle.swh_fastcook.proofs.length.object_length.Goals as goal

pub returns-in-Content : goal.returns-in-Content
returns-in-Content g c =
    let bodies = (g.L.Look.archive c.args.look.now).bodies in
    let order = c.args.marks.now in
    IfOk-weaker c.content_length.result (HasLengthOf (IsBlob bodies order c.args.name)) (HasLengthOf (IsObjectText bodies order c.args.name)) (λ n has. of_kind bodies order c.args.name Content n c.in-Content.is has) c.content_length.ensures

pub returns-in-Revision : goal.returns-in-Revision
returns-in-Revision g c =
    let bodies = (g.L.Look.archive c.args.look.now).bodies in
    let order = c.args.marks.now in
    IfOk-weaker c.revision_length.result (HasLengthOf (IsCommit bodies order c.args.name)) (HasLengthOf (IsObjectText bodies order c.args.name)) (λ n has. of_kind bodies order c.args.name RevisionKind n c.in-Revision.is has)
    c.revision_length.ensures

pub returns-in-Release : goal.returns-in-Release
returns-in-Release g c =
    let bodies = (g.L.Look.archive c.args.look.now).bodies in
    let order = c.args.marks.now in
    IfOk-weaker c.release_length.result (HasLengthOf (IsTag bodies order c.args.name)) (HasLengthOf (IsObjectText bodies order c.args.name)) (λ n has. of_kind bodies order c.args.name ReleaseKind n c.in-Release.is has)
    c.release_length.ensures

pub returns-in-Directory : goal.returns-in-Directory
returns-in-Directory g c = of_kind (g.L.Look.archive c.args.look.now).bodies c.args.marks.now c.args.name Directory 0 c.in-Directory.is (record { text = []; is = refl; long = inl refl })

pub returns-in-Snapshot : goal.returns-in-Snapshot
returns-in-Snapshot g c = of_kind (g.L.Look.archive c.args.look.now).bodies c.args.marks.now c.args.name Snapshot 0 c.in-Snapshot.is (record { text = []; is = refl; long = inl refl })
