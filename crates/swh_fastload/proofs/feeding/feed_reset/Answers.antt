use Rattle.std.proofs.lemmas.Result.{err_from_is_err_and}
use Rattle.swh_fastmeaning.specs.Tips.{aim_of}
use Rattle.swh_fastmeaning.specs.Parting.{stock_of}
use Rattle.swh_fastmeaning.proofs.Leadings.{reset_absent, reset_to, reset_refused}
use Rattle.swh_fastload.proofs.feeding.feed_reset.Goals as goal

pub returns-in_err-target-in-Of-clause-err : goal.returns-in_err-target-in-Of-clause-err
returns-in_err-target-in-Of-clause-err g c =
    let p = err_from_is_err_and c.from_residual.result c.from_residual.ensures.1 in
    rw (p.1, p.2) (reset_refused g.N.Namer.id_of (stock_of c.args.parts.now) c.requires.stocked c.args.branch.now c.args.parent.now c.in-Of.from c.in_err-target-in-Of.field-0.0 c.in-Of.is c.in_err-target-in-Of.ensures.err)

pub returns-in_ok-set_tip-in-Of-clause-ok : goal.returns-in_ok-set_tip-in-Of-clause-ok
returns-in_ok-set_tip-in-Of-clause-ok g c =
    reset_to g.N.Namer.id_of (stock_of c.args.parts.now) c.requires.stocked c.args.branch.now c.args.parent.now c.in-Of.from (aim_of c.in_ok-target-in-Of.target) c.set_tip.new.self c.in-Of.is c.requires.branch c.in_ok-target-in-Of.ensures.ok c.in_ok-set_tip-in-Of.ensures.ok

pub returns-in-Absent-clause-ok : goal.returns-in-Absent-clause-ok
returns-in-Absent-clause-ok g c =
    reset_absent g.N.Namer.id_of (stock_of c.args.parts.now) c.requires.stocked c.args.branch.now c.args.parent.now c.drop_tip.new.self c.in-Absent.is c.drop_tip.ensures
