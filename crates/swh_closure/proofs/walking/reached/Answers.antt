use Rattle.std.proofs.Common.{◌≡◌, ℕ, ◌-◌, List, [], ◌++◌, Some, take, refl, ap, ◌∙◌, arith, option_to_list}
use Rattle.swh_closure.specs.declared.met.Turn.{Turn}
use Rattle.swh_closure.proofs.Walks.{child_of, walk_starts, root_held, its_turn, name_met, walk_goes_on, walk_ends}
use Rattle.swh_closure.proofs.walking.reached.Goals as goal

pub loop-round-init : goal.loop-round-init
loop-round-init g c =
    walk_starts (g.G.Graph.children_of c.args.graph.now) c.args.closed.now c.args.root c.new-met.result c.meet.new.met c.new-met.ensures.names c.new-met.ensures.turns (c.in_ok-meet.ensures.yes c.if-not-branch.false)

pub returns-in_default-clause-ok : goal.returns-in_default-clause-ok
returns-in_default-clause-ok g c =
    let none = c.in_default.ensures.items ∙ ap (λ (turns : List Turn). turns ++ []) (c.in_default.ensures.rest ∙ ap (λ (n : ℕ). take (n - 1) c.loop-round.met.turns.items) c.in_default.ensures.cases.0) in
    walk_ends (g.G.Graph.children_of c.args.graph.now) c.args.closed.now c.args.root c.loop-round.met.names c.loop-round.met.turns.items c.loop-round._round none c.loop-round.invariant

pub returns-in_default-clause-reached : goal.returns-in_default-clause-reached
returns-in_default-clause-reached g c n listed = let met = c.loop-round.invariant.met n listed in (met.0, met.2)

pub returns-in-Some-2-clause-missing : goal.returns-in-Some-2-clause-missing
returns-in-Some-2-clause-missing g c =
    let children_of = g.G.Graph.children_of c.args.graph.now in
    let names = c.loop-round.met.names in
    let turns = c.loop-round.met.turns.items in
    let rest = c.pop.new.self.items in
    let turn = c.in-Some.turn in
    let is : turns ≡ rest ++ option_to_list (Some turn) = c.in-Some.ensures.items in
    let met = name_met children_of c.args.closed.now c.args.root names turns rest c.loop-round._round turn is c.loop-round.invariant in
    let its = its_turn children_of c.args.closed.now c.args.root names turns rest c.loop-round._round turn is c.loop-round.invariant in
    let gap = rw c.in-Some-2.is at c.in_ok-child.ensures.missing in
    (root_held children_of c.args.closed.now c.args.root turn.name met.0 met.1, met.0, child_of children_of c.args.closed.now turn.name c.in-Some-2.child turn.kids.now its.kids gap.0, gap.1)

pub loop-round-preserved : goal.loop-round-preserved
loop-round-preserved g c =
    let children_of = g.G.Graph.children_of c.args.graph.now in
    walk_goes_on children_of c.args.closed.now c.args.root c.loop-round.met.names c.loop-round.met.turns.items c.pop.new.self.items c.loop-round._round c.in-Some.turn c.in-Some.ensures.items c.loop-round.invariant
    (record { names = c.loop-round.met.names; turns = c.pop.new.self }) c.meet_all.new.met refl refl (rw c.in_default-2.is at c.in_ok-child.ensures.meets)

pub unreachable-requires : goal.unreachable-requires
unreachable-requires g c =
    let count = c.loop-round.invariant.count in
    let small = c.len-count.ensures.small in
    let value = c.len-count.ensures.value in
    omega (arith, count, small, value)
