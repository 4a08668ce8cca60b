use Rattle.std.proofs.Common.{arith}
use Rattle.swh_batchread.proofs.Breaking.{other_end}
use Rattle.swh_batchread.proofs.parts.next_body.Goals as goal

pub returns-else-branch-clause-err : goal.returns-else-branch-clause-err
returns-else-branch-clause-err g c =
    other_end g.S.Source.tells c.args.window.now c.next_data.new.window c.ends_body.new.window (g.S.Source.left c.args.source.now) (g.S.Source.left c.next_data.new.source) (g.S.Source.left c.ends_body.new.source) c.in-Ok.body.items c.args.start c.args.size (g.S.Source.faults c.args.source.now) (g.S.Source.faults c.ends_body.new.source) c.broken-else-branch.result
    (λ above. c.broken-else-branch.ensures.past (omega (arith, above, c.place-else-branch.ensures)))
    (λ below. c.broken-else-branch.ensures.within (omega (arith, below, c.place-else-branch.ensures)))
    c.requires.start
    c.in-Ok.ensures.count
    c.in-Ok.ensures.within
    c.in-Ok.ensures.taken
    (λ told. let ends = c.in_ok-ends_body.ensures.ends told in rw c.if-branch.false at ends)
