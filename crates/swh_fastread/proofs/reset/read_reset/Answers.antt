use Rattle.std.proofs.Common.{codes, refl}
use Rattle.swh_fastrows.proofs.NextLines.{took_held}
use Rattle.swh_fastread.proofs.Resets.{reset_reads}
use Rattle.swh_fastread.proofs.reset.read_reset.Goals as goal

pub returns-clause-command : goal.returns-clause-command
returns-clause-command g c = λ told.
    let t = took_held c.args.rows.now c.take.new.self (codes "reset ") c.args.branch c.requires.next c.requires.line refl c.take.ensures in
    reset_reads c.args.rows.now c.take.new.self c.reset_target.new.rows c.args.rows.now.at c.args.branch c.in_ok-parent.parent t c.requires.name (c.in_ok-parent.ensures.target told)
