use Rattle.std.proofs.Common.{List, take, sym, subst}
use Rattle.std.specs.List.{AllByRecursion}
use Rattle.std.proofs.lemmas.List.{take_all}
use Rattle.swh_base.specs.declared.entry.Entry.{Entry}
use Rattle.swh_object.specs.Object.{IsObject}
use Rattle.swh_dedup.proofs.Elements.{all_push}
use Rattle.swh_batchread.specs.RefSteps.{KnowsObjects, knowing}
use Rattle.swh_batchread.proofs.NamesKnown.{take_next}
use Rattle.swh_batchread.proofs.names.known_of.Goals as goal

pub loop-object-preserved : goal.loop-object-preserved
loop-object-preserved g c =
    let objects = c.args.objects.now in
    let i = c.loop-object.object-index in
    let object = c.object-item.result in
    let more = take_next objects i object c.loop-object-test.true c.object-item.is in
    record {
      known = subst (λ (es : List Entry). KnowsObjects es (knowing c.add_object.new.known)) (sym more) (c.in_ok-add_object.ensures (take i objects) c.loop-object.invariant.known);
      good = subst (AllByRecursion (IsObject g.N.Namer.id_of)) (sym more) (all_push (IsObject g.N.Namer.id_of) (take i objects) object c.loop-object.invariant.good c.name-name.ensures.good);
    }

pub returns-clause-known : goal.returns-clause-known
returns-clause-known g c = subst (λ (es : List Entry). KnowsObjects es (knowing c.loop-object.known)) (take_all c.loop-object.object-index c.args.objects.now c.loop-object-test.false) c.loop-object.invariant.known

pub returns-clause-good : goal.returns-clause-good
returns-clause-good g c = subst (AllByRecursion (IsObject g.N.Namer.id_of)) (take_all c.loop-object.object-index c.args.objects.now c.loop-object-test.false) c.loop-object.invariant.good
