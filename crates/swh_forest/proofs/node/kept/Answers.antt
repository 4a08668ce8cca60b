use Rattle.std.proofs.Common.{rules, sym, ap, ◌∙◌}
use Rattle.swh_entries.specs.Listed.{Listed}
use Rattle.swh_entries.specs.Keys.{texts}
use Rattle.swh_forest.proofs.Arenas.{if_ok}
use Rattle.swh_forest.proofs.Orders.{without-placed, without-none}
use Rattle.swh_forest.proofs.node.kept.Goals as goal

pub returns-in-Ok : goal.returns-in-Ok
returns-in-Ok c = λ at s. if_ok c.without.result (λ p is. is ∙ sym (without-placed (texts c.args.names.now) at c.args.node.items c.args.name.now c.in-Ok.place s (search rules) (search rules))) c.without.ensures.items

pub returns-in-Err : goal.returns-in-Err
returns-in-Err c = λ at s. ap (λ (p : Listed). p.items) c.hinted.ensures ∙ sym (without-none (texts c.args.names.now) c.args.node.items c.args.name.now (search rules))
