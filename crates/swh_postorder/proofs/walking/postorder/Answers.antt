use Rattle.std.proofs.Common.{inr, ℕ, ◌-◌, List, [], ◌++◌, take, ap, ◌∙◌, arith}
use Rattle.swh_postorder.specs.declared.walk.Frame.{Frame}
use Rattle.swh_postorder.specs.declared.walk.Walk.{Walk}
use Rattle.swh_postorder.proofs.Walks.{entered_root, cannot_enter_root, cannot_go_on, refused, walk_goes_on, walk_ends}
use Rattle.swh_postorder.proofs.walking.postorder.Goals as goal

pub returns-in_err-enter-clause-err : goal.returns-in_err-enter-clause-err
returns-in_err-enter-clause-err g c =
    refused c.from_residual.result _ _ c.from_residual.ensures.1 (cannot_enter_root (g.G.Graph.children_of c.args.graph.now) c.args.root c.in_err-enter.field-0.0 c.in_err-enter.ensures.err)

pub loop-round-init : goal.loop-round-init
loop-round-init g c =
    entered_root (g.G.Graph.children_of c.args.graph.now) c.args.root c.new-walk.result c.enter.new.walk c.new-walk.ensures.entered c.new-walk.ensures.frames c.new-walk.ensures.left c.in_ok-enter.ensures.ok

pub returns-in_default-clause-ok : goal.returns-in_default-clause-ok
returns-in_default-clause-ok g c =
    let none = c.in_default.ensures.items ∙ ap (λ (frames : List Frame). frames ++ []) (c.in_default.ensures.rest ∙ ap (λ (n : ℕ). take (n - 1) c.loop-round.walk.frames.items) c.in_default.ensures.cases.0) in
    walk_ends (g.G.Graph.children_of c.args.graph.now) c.args.root c.loop-round.walk.entered c.loop-round.walk.frames.items c.loop-round.walk.left.items c.loop-round._round none c.loop-round.invariant

pub returns-in_err-go_on-clause-err : goal.returns-in_err-go_on-clause-err
returns-in_err-go_on-clause-err g c =
    let old : Walk = record { entered = c.loop-round.walk.entered; frames = c.pop.new.self; left = c.loop-round.walk.left; places = c.loop-round.walk.places } in
    refused c.from_residual-in_err-go_on.result _ _ c.from_residual-in_err-go_on.ensures.1
    (cannot_go_on (g.G.Graph.children_of c.args.graph.now) c.args.root c.in-Some.top old c.loop-round.walk.frames.items c.loop-round._round c.in-Some.ensures.items c.loop-round.invariant c.in_err-go_on.field-0.0 c.in_err-go_on.ensures.err)

pub loop-round-preserved : goal.loop-round-preserved
loop-round-preserved g c =
    let old : Walk = record { entered = c.loop-round.walk.entered; frames = c.pop.new.self; left = c.loop-round.walk.left; places = c.loop-round.walk.places } in
    walk_goes_on (g.G.Graph.children_of c.args.graph.now) c.args.root c.in-Some.top old c.loop-round.walk.frames.items c.loop-round._round c.in-Some.ensures.items c.loop-round.invariant c.go_on.new.walk c.in_ok-go_on.ensures.ok

pub unreachable-requires : goal.unreachable-requires
unreachable-requires g c =
    let count = c.loop-round.invariant.count in
    let rounds = c.loop-round.invariant.rounds in
    let small = c.len-count.ensures.small in
    let value = c.len-count.ensures.value in
    omega (arith, count, rounds, small, value)

pub go_on-requires : goal.go_on-requires
go_on-requires g c = λ n there. (c.loop-round.invariant.known n).1 (inr there)
