use Rattle.swh_swhid.proofs.Places.{first_place, core_breaks}
use Rattle.swh_swhid.proofs.parsing.read.Goals as goal

pub returns-in-Err-clause-err : goal.returns-in-Err-clause-err
returns-in-Err-clause-err c = rw c.bad.ensures (core_breaks c.args.text.now c.piece_end-at.result c.in-Err.within c.piece_end-at.ensures.whole c.piece_end-at.ensures.closed (rw c.front.ensures at c.in-Err.ensures.err))

pub loop-at-init : goal.loop-at-init
loop-at-init c = rw c.bare-swhid.ensures (first_place c.args.text.now c.piece_end-at.result c.in-Ok.core c.piece_end-at.ensures.within c.piece_end-at.ensures.closed (rw c.front.ensures at c.in-Ok.ensures.ok))
