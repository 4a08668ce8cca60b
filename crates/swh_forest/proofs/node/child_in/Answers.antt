use Rattle.std.proofs.Common.{rules, ap, subst, sym, ◌∙◌}
use Rattle.swh_entries.specs.declared.entry.Entry.{Entry}
use Rattle.swh_forest.specs.Arena.{stands, IsLower}
use Rattle.swh_entries.specs.Keys.{texts}
use Rattle.swh_forest.proofs.Steps.{good-at}
use Rattle.swh_forest.proofs.Orders.{found-at, found-none}
use Rattle.swh_forest.proofs.node.child_in.Goals as goal

pub returns-in-Ok-clause-child : goal.returns-in-Ok-clause-child
returns-in-Ok-clause-child c = λ at s.
    ap (λ (f : Entry). stands at f.child) (c.at.ensures c.at.result) ∙ sym (found-at (texts c.args.names.now) at c.args.node.now.items c.args.name.now c.in-Ok.place c.at.result s (search rules) (search rules))

pub returns-in-Ok-clause-inside : goal.returns-in-Ok-clause-inside
returns-in-Ok-clause-inside c = λ n k good. subst (λ (f : Entry). IsLower k f.child) (sym (c.at.ensures c.at.result)) (good-at n k c.args.node.now.items c.in-Ok.place c.at.result good (search rules))

pub returns-in-Err-clause-child : goal.returns-in-Err-clause-child
returns-in-Err-clause-child c = λ at s. sym (found-none (texts c.args.names.now) at c.args.node.now.items c.args.name.now (search rules))
