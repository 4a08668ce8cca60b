use Rattle.std.proofs.Common.{◌≡◌, true, false, sym, ◌∙◌}
use Rattle.std.specs.Prelude.{IsTrue}
use Rattle.swh_fastcarried.proofs.FirstRules.{many_refs, many_none}
use Rattle.swh_fastcarried.proofs.Reaching.{not_true}
use Rattle.swh_fastcarried.proofs.first.rule_of.Goals.{else-many-via-then-many+else-is_same, else-many-via-else-many}
use Rattle.swh_fastcarried.proofs.first.rule_of.Goals as goal

pub returns-then-is_same-clause-rule : goal.returns-then-is_same-clause-rule
returns-then-is_same-clause-rule g c =
    let r = c.args.reached.now in
    many_refs (g.L.Look.archive c.args.look.now).bodies r.root r.order.now c.args.name (IsTrue c.args.many) (rw c.in_default.is at c.in_ok-why.ensures.rule) (c.is_same.ensures.0 c.if-is_same.true) c.if-many.true

pub returns-clause-rule : goal.returns-clause-rule
returns-clause-rule g c =
    let r = c.args.reached.now in
    many_none (g.L.Look.archive c.args.look.now).bodies r.root r.order.now c.args.name (IsTrue c.args.many) (rw c.in_default.is at c.in_ok-why.ensures.rule)
    (λ both. elim c.else-many.branch [
      | else-many-via-then-many+else-is_same w ↦ not_true w.is_same.ensures w.if-is_same.false both.0
      | else-many-via-else-many w ↦ let e : true ≡ false = sym both.1 ∙ w.if-many.false in cc
    ])
