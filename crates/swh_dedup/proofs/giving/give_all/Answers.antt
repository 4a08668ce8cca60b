use Rattle.std.proofs.Common.{◌∙◌}
use Rattle.std.proofs.lemmas.Iterator.Consumers.{YieldsList-turn}
use Rattle.std.proofs.lemmas.Iterator.Adapters.{YieldsList-from_vec}
use Rattle.swh_dedup.proofs.Givens.{next_ready, next_given}
use Rattle.swh_dedup.proofs.giving.give_all.Goals as goal

pub give-requires-clause-ready : goal.give-requires-clause-ready
give-requires-clause-ready g c κs within =
    let b = c.into_iter-object-iterator.ensures.into_iter_gives in
    let turn = YieldsList-turn (YieldsList-from_vec {s = c.into_iter-object-iterator.result} c.args.objects.items b.0 (b.1 ∙ c.args.objects.ok.0)) c.loop-object.yielded c.loop-object.object-iterator c.loop-object.yielded_by c.next.result c.next.new.self c.in-Some.object c.in-Some.is c.next.ensures.steps in
    next_ready g.N.Namer.id_of c.args.seen.now c.loop-object.seen c.args.objects.items c.loop-object.out.items c.loop-object.yielded c.in-Some.object c.requires.ready turn.0 turn.1 c.loop-object.invariant

pub loop-object-preserved : goal.loop-object-preserved
loop-object-preserved g c =
    let b = c.into_iter-object-iterator.ensures.into_iter_gives in
    let turn = YieldsList-turn (YieldsList-from_vec {s = c.into_iter-object-iterator.result} c.args.objects.items b.0 (b.1 ∙ c.args.objects.ok.0)) c.loop-object.yielded c.loop-object.object-iterator c.loop-object.yielded_by c.next.result c.next.new.self c.in-Some.object c.in-Some.is c.next.ensures.steps in
    next_given g.N.Namer.id_of c.args.seen.now c.loop-object.seen c.args.objects.items c.loop-object.out.items c.loop-object.yielded c.in-Some.object _ _ turn.0 turn.1 (c.in_ok-give.ensures _ _ c.loop-object.invariant)
