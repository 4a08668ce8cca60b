use Rattle.std.proofs.Common.{◌≡◌, ◌+◌, ◌-◌, ℕ, drop, subst, arith}
use Rattle.swh_carried.specs.Ways.{ComesFrom, TellAll}
use Rattle.swh_carried.proofs.WaySteps.{told_at_last, told_at, all_told}
use Rattle.swh_carried.proofs.ways.ways_from.Goals as goal

pub names-init : goal.names-init
names-init g c = record {
  few = omega arith;
  tell = told_at_last (g.L.Look.archive c.args.look.now).bodies c.args.starts.now c.args.order.now c.in_ok-ways.ways.entries c.in_ok-ways.ensures;
}

pub names-preserved : goal.names-preserved
names-preserved g c =
    let bodies = (g.L.Look.archive c.args.look.now).bodies in
    let order = c.args.order.now in
    let starts = c.args.starts.now in
    let some = c.names-test.true in
    let few = c.names.invariant.few in
    let next : c.names.left ≡ (c.names.left - 1) + 1 = omega (arith, some) in
    record {
      few = omega (arith, few);
      tell =
          told_at bodies (g.L.Graph.children_of c.args.look.now) c.is_graph.ensures starts order c.requires.preceded c.requires.once c.requires.there (c.names.left - 1) _ (omega (arith, some, few)) c.names.ways.entries c.tell.new.ways.entries
          (subst (λ (n : ℕ). TellAll (ComesFrom bodies starts (drop n order)) c.names.ways.entries) next c.names.invariant.tell) c.in_ok-tell.ensures;
    }

pub returns : goal.returns
returns g c =
    let bodies = (g.L.Look.archive c.args.look.now).bodies in
    let order = c.args.order.now in
    let starts = c.args.starts.now in
    let done = c.names-test.false in
    let none : c.names.left ≡ 0 = omega (arith, done) in
    all_told bodies (g.L.Graph.children_of c.args.look.now) c.is_graph.ensures starts order c.requires.preceded c.requires.once c.requires.there c.names.ways.entries
    (subst (λ (n : ℕ). TellAll (ComesFrom bodies starts (drop n order)) c.names.ways.entries) none c.names.invariant.tell)
