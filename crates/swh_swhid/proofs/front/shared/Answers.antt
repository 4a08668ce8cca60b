use Rattle.std.proofs.Common.{drop, arith}
use Rattle.swh_swhid.proofs.Fronts.{common-step, common-stop, common-end, common-over}
use Rattle.swh_swhid.proofs.front.shared.Goals as goal

pub returns-then-i-text : goal.returns-then-i-text
returns-then-i-text c = let e = common-end c.args.word.now c.args.text.now c.loop-i.i c.if-i-text.true in omega (arith, e, c.loop-i.invariant)

pub returns-then-text-i : goal.returns-then-text-i
returns-then-text-i c = let e = common-stop c.args.word.now c.args.text.now c.loop-i.i (omega arith) (omega arith) c.if-text-i.true in omega (arith, e, c.loop-i.invariant)

pub loop-i-preserved : goal.loop-i-preserved
loop-i-preserved c = let e = common-step c.args.word.now c.args.text.now c.loop-i.i (omega arith) (omega arith) c.if-text-i.false in omega (arith, e, c.loop-i.invariant)

pub returns : goal.returns
returns c = let e = common-over c.args.word.now (drop c.loop-i.i c.args.text.now) c.loop-i.i c.loop-i-test.false in omega (arith, e, c.loop-i.invariant)
