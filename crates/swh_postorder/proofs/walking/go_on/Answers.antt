use Rattle.std.proofs.Common.{refl}
use Rattle.std.proofs.lemmas.Result.{on_ok_weaker, IfErr-weaker}
use Rattle.swh_postorder.specs.declared.walk.Frame.{Frame}
use Rattle.swh_postorder.specs.Walk.{CannotEnter, CannotGoOn}
use Rattle.swh_postorder.proofs.Walks.{goes_in_child, stops_in_child}
use Rattle.swh_postorder.proofs.walking.go_on.Goals as goal

pub returns-clause-ok : goal.returns-clause-ok
returns-clause-ok g c =
    let rest : Frame = record { name = c.args.top.name; kids = c.in-Some.kids } in
    on_ok_weaker c.enter.result
    (goes_in_child (g.G.Graph.children_of c.args.graph.now) c.args.top c.args.walk.now (record { entered = c.args.walk.now.entered; frames = c.push.new.self; left = c.args.walk.now.left; places = c.args.walk.now.places }) c.enter.new.walk rest c.in-Some.name
    c.in-Some.ensures.some refl c.in_ok-push.ensures.items refl refl) c.enter.ensures.ok

pub returns-clause-err : goal.returns-clause-err
returns-clause-err g c =
    let children_of = g.G.Graph.children_of c.args.graph.now in
    IfErr-weaker c.enter.result (CannotEnter children_of c.in-Some.name) (CannotGoOn children_of c.args.top c.args.walk.now)
    (stops_in_child children_of c.args.top c.args.walk.now c.in-Some.name c.in-Some.kids.now c.in-Some.ensures.some) c.enter.ensures.err
