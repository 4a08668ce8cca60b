use Rattle.std.proofs.Common.{rules, sym, ◌∙◌, subst}
use Rattle.std.specs.List.{AllByRecursion}
use Rattle.std.proofs.lemmas.Iterator.Consumers.{YieldsList-end}
use Rattle.std.proofs.lemmas.Iterator.Adapters.{YieldsList-from_vec}
use Rattle.std.proofs.lemmas.List.{map-id}
use Rattle.swh_model.specs.Step.{HasItsChildrenAndName}
use Rattle.swh_model.proofs.Visits.{all-push}
use Rattle.swh_plan.proofs.entries.entries_of.Goals as goal

pub loop-object-preserved : goal.loop-object-preserved
loop-object-preserved g c =
    let object = c.into_entry.ensures.good in
    record {
      same = search rules;
      good = all-push (HasItsChildrenAndName g.N.Namer.id_of) c.loop-object.yielded c.in-Some.object c.loop-object.invariant.good (record { good = record { kids = object.kids }; named = object.named });
    }

pub returns-clause-same : goal.returns-clause-same
returns-clause-same g c =
    let b = c.into_iter-object-iterator.ensures.into_iter_gives in
    let all = YieldsList-end (YieldsList-from_vec {s = c.into_iter-object-iterator.result} c.args.objects.items b.0 (b.1 ∙ c.args.objects.ok.0)) c.loop-object.yielded c.loop-object.object-iterator c.loop-object.yielded_by c.next.result c.next.new.self c.in-None.is c.next.ensures.steps in
    c.loop-object.invariant.same ∙ sym (map-id c.loop-object.yielded) ∙ all.0

pub returns-clause-good : goal.returns-clause-good
returns-clause-good g c =
    let b = c.into_iter-object-iterator.ensures.into_iter_gives in
    let all = YieldsList-end (YieldsList-from_vec {s = c.into_iter-object-iterator.result} c.args.objects.items b.0 (b.1 ∙ c.args.objects.ok.0)) c.loop-object.yielded c.loop-object.object-iterator c.loop-object.yielded_by c.next.result c.next.new.self c.in-None.is c.next.ensures.steps in
    subst (AllByRecursion (HasItsChildrenAndName g.N.Namer.id_of)) (sym (map-id c.loop-object.yielded) ∙ all.0) c.loop-object.invariant.good
