use Rattle.swh_batchread.proofs.RefLines.{ref_with_feed}
use Rattle.swh_batchread.proofs.ref_line.ref_in.Goals as goal

pub returns : goal.returns
returns c = ref_with_feed c.args.line.now c.ref_before.result c.requires.line c.requires.short c.ref_before.ensures
