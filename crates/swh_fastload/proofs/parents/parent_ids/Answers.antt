use Rattle.std.proofs.Common.{arith}
use Rattle.std.proofs.lemmas.Result.{err_from_is_err_and}
use Rattle.std.specs.Option.{option_map}
use Rattle.swh_fastmeaning.specs.Tips.{aim_of}
use Rattle.swh_fastload.proofs.ParentsFound.{no_first, one_found, one_missing, all_found}
use Rattle.swh_fastload.proofs.parents.parent_ids.Goals as goal

pub loop-merge-init : goal.loop-merge-init
loop-merge-init c = no_first c.args.aims.now (option_map aim_of c.args.first) c.args.merges.now c.in_ok-ids.ids.items c.in_ok-ids.ensures

pub returns-in_err-target-clause-err : goal.returns-in_err-target-clause-err
returns-in_err-target-clause-err c =
    let p = err_from_is_err_and c.from_residual-in_err-target.result c.from_residual-in_err-target.ensures.1 in
    rw (p.1, p.2) (one_missing c.args.aims.now (option_map aim_of c.args.first) c.args.merges.now c.loop-merge.merge-index c.merge-item.result c.loop-merge.ids.items c.in_err-target.field-0.0 c.merge-item.is c.loop-merge-test.true c.loop-merge.invariant c.in_err-target.ensures.err)

pub loop-merge-preserved : goal.loop-merge-preserved
loop-merge-preserved c =
    one_found c.args.aims.now (option_map aim_of c.args.first) c.args.merges.now c.loop-merge.merge-index c.merge-item.result (aim_of c.in_ok-target.target) c.loop-merge.ids.items c.push.new.self.items c.merge-item.is c.loop-merge-test.true c.loop-merge.invariant c.in_ok-target.ensures.ok c.in_ok-push.ensures.items

pub returns-clause-ok : goal.returns-clause-ok
returns-clause-ok c = all_found c.args.aims.now (option_map aim_of c.args.first) c.args.merges.now c.loop-merge.merge-index c.loop-merge.ids.items (omega (arith, c.loop-merge-test.false)) c.loop-merge.invariant
