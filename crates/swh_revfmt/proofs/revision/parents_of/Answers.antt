use Rattle.swh_revfmt.proofs.Lines.{read_more}
use Rattle.swh_revfmt.proofs.revision.parents_of.Goals as goal

pub lines-preserved : goal.lines-preserved
lines-preserved c =
    let line = c.in-Some.ensures.some in
    let done = read_more c.args.bytes.now c.lines.parents.items c.push.new.self.items c.in-Some.line.id c.lines.rest.now c.in-Some.line.rest.now c.in_ok-push.ensures.items c.lines.invariant.ids c.lines.invariant.text line.0 line.1 in
    record { ids = done.are_ids; text = done.text }
