use Rattle.std.proofs.Common.{◌≡◌, ◌+◌, ◌-◌, ◌<◌, ℕ, List, [], drop, get_or, length, subst, arith}
use Rattle.std.specs.Prelude.{IsTrue}
use Rattle.std.specs.Map.{lookup}
use Rattle.std.specs.BTreeMap.{is_at}
use Rattle.swh_base.specs.declared.kind.Kind.TheVariants.{Content}
use Rattle.swh_base.specs.declared.name.Name.{Name}
use Rattle.swh_base.specs.Name.{name_cmp}
use Rattle.swh_carried.specs.Ways.{ComesFrom, TellAll}
use Rattle.swh_carried.proofs.WaySteps.{told_at_last, told_at, here_at}
use Rattle.swh_fastcarried.specs.First.{IsFirstFound}
use Rattle.swh_fastcarried.specs.Rules.{BreaksIn}
use Rattle.swh_fastcarried.proofs.FromEnd.{none_at_end, found_more, found_at}
use Rattle.swh_fastcarried.proofs.RevisionRoots.{root_in, ways_same}
use Rattle.swh_fastcarried.proofs.first.first_in.Goals as goal

abbrev none : Name
none = record { kind = Content; id = [] }

pub names-init : goal.names-init
names-init g c =
    let bodies = (g.L.Look.archive c.args.look.now).bodies in
    let r = c.args.reached.now in
    record {
      few = omega arith;
      tell =
          subst (λ (starts : List Name). TellAll (ComesFrom bodies starts (drop (length r.order.now) r.order.now)) c.in_ok-ways.ways.entries) c.as_slice.ensures.value
          (told_at_last bodies c.as_slice.result.now r.order.now c.in_ok-ways.ways.entries c.in_ok-ways.ensures);
      first = none_at_end (BreaksIn bodies r.root r.order.now (IsTrue c.args.many) ⊥) r.order.now;
    }

pub rule_of-requires-clause-known : goal.rule_of-requires-clause-known
rule_of-requires-clause-known g c =
    let bodies = (g.L.Look.archive c.args.look.now).bodies in
    let children_of = g.L.Graph.children_of c.args.look.now in
    let order = c.args.reached.now.order.now in
    let starts = c.in_ok-roots.roots.items in
    let some = c.names-test.true in
    let few = c.names.invariant.few in
    let next : c.names.left ≡ (c.names.left - 1) + 1 = omega (arith, some) in
    ways_same bodies order starts c.in_ok-roots.ensures (get_or order (c.names.left - 1) none) (lookup (is_at (name_cmp (get_or order (c.names.left - 1) none))) c.names.ways.entries)
    (here_at bodies children_of c.is_graph.ensures starts order c.requires.preceded c.requires.once (λ n h. root_in bodies children_of c.is_graph.ensures order c.requires.preceded n ((c.in_ok-roots.ensures n).0 h)) (c.names.left - 1) none
    (omega (arith, some, few)) c.names.ways.entries c.names.ways.entries (subst (λ (n : ℕ). TellAll (ComesFrom bodies starts (drop n order)) c.names.ways.entries) next c.names.invariant.tell))

pub names-preserved : goal.names-preserved
names-preserved g c =
    let bodies = (g.L.Look.archive c.args.look.now).bodies in
    let children_of = g.L.Graph.children_of c.args.look.now in
    let r = c.args.reached.now in
    let order = r.order.now in
    let starts = c.in_ok-roots.roots.items in
    let Breaks = BreaksIn bodies r.root order (IsTrue c.args.many) ⊥ in
    let some = c.names-test.true in
    let few = c.names.invariant.few in
    let next : c.names.left ≡ (c.names.left - 1) + 1 = omega (arith, some) in
    let within : c.names.left - 1 < length order = omega (arith, some, few) in
    let name = get_or order (c.names.left - 1) none in
    let behind = drop ((c.names.left - 1) + 1) order in
    record {
      few = omega (arith, few);
      tell =
          told_at bodies children_of c.is_graph.ensures starts order c.requires.preceded c.requires.once (λ n h. root_in bodies children_of c.is_graph.ensures order c.requires.preceded n ((c.in_ok-roots.ensures n).0 h)) (c.names.left - 1) none within
          c.names.ways.entries c.rule_of.new.ways.entries (subst (λ (n : ℕ). TellAll (ComesFrom bodies starts (drop n order)) c.names.ways.entries) next c.names.invariant.tell) c.in_ok-rule.ensures.ways;
      first =
          found_at Breaks order (c.names.left - 1) none within c.found_with-found.result
          (found_more Breaks name behind c.in_ok-rule.rule c.in_ok-rule.ensures.rule c.names.found c.found_with-found.result
          (subst (λ (n : ℕ). IsFirstFound Breaks (drop n order) c.names.found) next c.names.invariant.first) c.found_with-found.ensures.some c.found_with-found.ensures.none);
    }

pub returns : goal.returns
returns g c =
    let r = c.args.reached.now in
    let Breaks = BreaksIn (g.L.Look.archive c.args.look.now).bodies r.root r.order.now (IsTrue c.args.many) ⊥ in
    let done = c.names-test.false in
    let zero : c.names.left ≡ 0 = omega (arith, done) in
    subst (λ (n : ℕ). IsFirstFound Breaks (drop n r.order.now) c.names.found) zero c.names.invariant.first
