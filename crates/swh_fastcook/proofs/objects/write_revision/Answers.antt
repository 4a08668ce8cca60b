use Rattle.swh_revfmt.specs.PlainReading.{plain_revision}
use Rattle.swh_fastcarried.proofs.OddObjects.{of_revision}
use Rattle.swh_fastwrite.specs.Held.{kept}
use Rattle.swh_fastwrite.proofs.Pieces.{front_none}
use Rattle.swh_fastcook.specs.Files.{IsCommitOf}
use Rattle.swh_fastcook.specs.Stream.{IsCommit}
use Rattle.swh_fastcook.proofs.Kids.{directory_in, parents_in}
use Rattle.swh_fastcook.proofs.ObjectTexts.{commit_on, commit_back, wrote_as}
use Rattle.swh_fastcook.proofs.Texts.{stopped_some}
use Rattle.swh_fastcook.proofs.objects.write_revision.Goals as goal

pub returns-in_err-plain-clause-bytes : goal.returns-in_err-plain-clause-bytes
returns-in_err-plain-clause-bytes g c =
    let old = kept c.args.taker.now c.args.held.now.items in
    stopped_some g.T.Taker.takes g.T.Taker.takes_front old old c.from_residual.result c.from_residual.ensures.0 (IsCommit (g.L.Look.archive c.args.look.now).bodies c.args.marks.now c.args.name)
    (λ t _. front_none g.T.Taker.takes g.T.Taker.takes_front g.met.T.Taker.adds_up old t)

pub unreachable-requires : goal.unreachable-requires
unreachable-requires g c =
    c.requires.plain
    (of_revision (g.L.Look.archive c.args.look.now).bodies c.args.name (record { kind = c.requires.kind; body = c.body_at-body.result.now; held = c.body_at-body.ensures; odd = rw c.as_slice.ensures at (rw c.in-None.is at c.in_ok-plain.ensures.none) }))

pub write_commit-requires-clause-directory : goal.write_commit-requires-clause-directory
write_commit-requires-clause-directory g c =
    let is = rw c.as_slice.ensures at (rw c.in-Some.is at c.in_ok-plain.ensures.some) in
    directory_in (g.L.Look.archive c.args.look.now).bodies (g.L.Graph.children_of c.args.look.now) c.is_graph.ensures c.args.marks.now c.requires.preceded c.args.name c.body_at-body.result.now c.requires.there c.body_at-body.ensures
    (plain_revision c.in-Some.plain) c.requires.kind is

pub write_commit-requires-clause-parents : goal.write_commit-requires-clause-parents
write_commit-requires-clause-parents g c =
    let is = rw c.as_slice.ensures at (rw c.in-Some.is at c.in_ok-plain.ensures.some) in
    parents_in (g.L.Look.archive c.args.look.now).bodies (g.L.Graph.children_of c.args.look.now) c.is_graph.ensures c.args.marks.now c.requires.preceded c.args.name c.body_at-body.result.now c.requires.there c.body_at-body.ensures
    (plain_revision c.in-Some.plain) c.requires.kind is

pub returns-clause-bytes : goal.returns-clause-bytes
returns-clause-bytes g c =
    let bodies = (g.L.Look.archive c.args.look.now).bodies in
    let order = c.args.marks.now in
    let old = kept c.args.taker.now c.args.held.now.items in
    let new = kept c.write_commit.new.taker c.write_commit.new.held.items in
    let plain = plain_revision c.in-Some.plain in
    let is = rw c.as_slice.ensures at (rw c.in-Some.is at c.in_ok-plain.ensures.some) in
    wrote_as g.T.Taker.takes g.T.Taker.takes_front old new c.write_commit.result (IsCommit bodies order c.args.name) (IsCommitOf bodies order c.args.name plain)
    (commit_on bodies order c.args.name c.body_at-body.result.now c.body_at-body.ensures plain is) (commit_back bodies order c.args.name c.body_at-body.result.now c.body_at-body.ensures plain is) c.write_commit.ensures.bytes
