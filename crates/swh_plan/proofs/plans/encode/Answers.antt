use Rattle.std.proofs.Common.{length, refl, ap, arith}
use Rattle.swh_plan.proofs.EncodeLemmas.{lengths_are}
use Rattle.swh_plan.proofs.plans.encode.Goals as goal

pub returns-in-Some-clause-err : goal.returns-in-Some-clause-err
returns-in-Some-clause-err c h is =
    c.in-Some.ensures.some h c.args.event.now.what
    (lengths_are c.args.replayed.now h c.args.event.now c.args.run.now c.in_ok-bytes.bytes.items (length c.args.run.now) (length c.as_slice.result.now) is c.requires.run c.in_ok-bytes.ensures refl (ap length c.as_slice.ensures.value))

pub returns-in-None-clause-ok : goal.returns-in-None-clause-ok
returns-in-None-clause-ok c h is =
    c.in-None.ensures.none h c.args.event.now.what
    (lengths_are c.args.replayed.now h c.args.event.now c.args.run.now c.in_ok-bytes.bytes.items (length c.args.run.now) (length c.as_slice.result.now) is c.requires.run c.in_ok-bytes.ensures refl (ap length c.as_slice.ensures.value))

pub returns-in-None-clause-bytes : goal.returns-in-None-clause-bytes
returns-in-None-clause-bytes c =
    record { codable = c.requires.codable; are = c.in_ok-bytes.ensures; store_fits = c.in-None.ensures.store_fits; ledger_fits = let f = c.in-None.ensures.ledger_fits in let e = ap length c.as_slice.ensures.value in omega (arith, f, e) }
