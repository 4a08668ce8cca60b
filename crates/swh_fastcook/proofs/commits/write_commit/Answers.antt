use Rattle.swh_revfmt.specs.PlainReading.{plain_revision}
use Rattle.swh_fastwrite.specs.Held.{kept}
use Rattle.swh_fastcook.specs.Files.{IsCommitOf}
use Rattle.swh_fastcook.proofs.CommitTexts.{commit_done, front_stopped, files_stopped, end_stopped}
use Rattle.swh_fastcook.proofs.Texts.{stopped_some}
use Rattle.swh_fastcook.proofs.commits.write_commit.Goals as goal

pub returns-in_err-write_commit_front-clause-bytes : goal.returns-in_err-write_commit_front-clause-bytes
returns-in_err-write_commit_front-clause-bytes g c =
    let bodies = (g.L.Look.archive c.args.look.now).bodies in
    let old = kept c.args.taker.now c.args.held.now.items in
    let plain = plain_revision c.args.plain.now in
    stopped_some g.T.Taker.takes g.T.Taker.takes_front old (kept c.write_commit_front.new.taker c.write_commit_front.new.held.items) c.from_residual.result
    c.from_residual.ensures.0 (IsCommitOf bodies c.args.marks.now c.args.name plain)
    (front_stopped g.T.Taker.takes g.T.Taker.takes_front g.met.T.Taker.adds_up bodies c.args.marks.now c.args.name plain old c.write_commit_front.new.taker c.in_err-write_commit_front.ensures.bytes.err)

pub returns-in_err-write_files-clause-bytes : goal.returns-in_err-write_files-clause-bytes
returns-in_err-write_files-clause-bytes g c =
    let bodies = (g.L.Look.archive c.args.look.now).bodies in
    let old = kept c.args.taker.now c.args.held.now.items in
    let a = kept c.write_commit_front.new.taker c.write_commit_front.new.held.items in
    let plain = plain_revision c.args.plain.now in
    stopped_some g.T.Taker.takes g.T.Taker.takes_front old (kept c.write_files.new.taker c.write_files.new.held.items) c.from_residual-in_err-write_files.result c.from_residual-in_err-write_files.ensures.0
    (IsCommitOf bodies c.args.marks.now c.args.name plain)
    (files_stopped g.T.Taker.takes g.T.Taker.takes_front g.met.T.Taker.adds_up bodies c.args.marks.now c.args.name plain old a c.write_files.new.taker c.in_ok-write_commit_front.ensures.bytes.ok c.in_err-write_files.ensures.bytes.err)

pub returns-in_err-hold-clause-bytes : goal.returns-in_err-hold-clause-bytes
returns-in_err-hold-clause-bytes g c =
    let bodies = (g.L.Look.archive c.args.look.now).bodies in
    let old = kept c.args.taker.now c.args.held.now.items in
    let a = kept c.write_commit_front.new.taker c.write_commit_front.new.held.items in
    let b = kept c.write_files.new.taker c.write_files.new.held.items in
    let plain = plain_revision c.args.plain.now in
    let files = c.in_ok-write_files.ensures.bytes.ok in
    stopped_some g.T.Taker.takes g.T.Taker.takes_front old (kept c.write_files.new.taker c.hold.new.held.items) c.from_residual-in_err-hold.result c.from_residual-in_err-hold.ensures.0
    (IsCommitOf bodies c.args.marks.now c.args.name plain)
    (end_stopped g.T.Taker.takes g.T.Taker.takes_front g.met.T.Taker.adds_up bodies c.args.marks.now c.args.name plain old a b files.0 c.in_ok-write_commit_front.ensures.bytes.ok files.1 files.2)

pub returns-clause-bytes : goal.returns-clause-bytes
returns-clause-bytes g c =
    let bodies = (g.L.Look.archive c.args.look.now).bodies in
    let old = kept c.args.taker.now c.args.held.now.items in
    let a = kept c.write_commit_front.new.taker c.write_commit_front.new.held.items in
    let b = kept c.write_files.new.taker c.write_files.new.held.items in
    let plain = plain_revision c.args.plain.now in
    let files = c.in_ok-write_files.ensures.bytes.ok in
    record {
      ok = commit_done g.T.Taker.takes g.T.Taker.takes_front g.met.T.Taker.adds_up bodies c.args.marks.now c.args.name plain old a b c.hold.new.held.items files.0 c.in_ok-write_commit_front.ensures.bytes.ok files.1 files.2 c.in_ok-hold.ensures;
      err = tt;
    }
