use Rattle.std.proofs.Common.{◌++◌, ◌∷◌, List, [], get_or, take, sym, subst}
use Rattle.std.proofs.lemmas.List.{take_more, get_or_default}
use Rattle.swh_base.specs.declared.kind.Kind.TheVariants.{Content}
use Rattle.swh_base.specs.declared.name.Name.{Name}
use Rattle.swh_marks.specs.Others.{AreOthers}
use Rattle.swh_marks.proofs.OtherLemmas.{others-led, others-put}
use Rattle.swh_marks.proofs.marks.places_of_others.Goals as goal
use Rattle.swh_marks.proofs.marks.places_of_others.Goals.{then-not-lead+in_ok-insert, else-not-lead}

abbrev none : Name
none = record { kind = Content; id = [] }

pub loop-place-preserved : goal.loop-place-preserved
loop-place-preserved c =
    let slots = c.args.places.now in
    let names = c.args.names.now in
    let place = c.loop-place.place in
    let less = c.loop-place-test.true in
    let name = get_or names place none in
    let old = c.loop-place.others in
    let more : AreOthers slots names (take place names ++ name ∷ []) c.if-not-lead.others = elim c.if-not-lead.branch [
      | then-not-lead+in_ok-insert w ↦
          subst (AreOthers slots names (take place names ++ name ∷ [])) (sym w.others-is)
          (others-put slots names (take place names) name old w.insert.new.self place c.loop-place.invariant
          (λ led. let was = c.lead.ensures.led.1 led in let not = w.if-not-lead.true in absurd (cc))
          (less, get_or_default names place none name less) w.in_ok-insert.ensures.updates.0)
      | else-not-lead w ↦
          subst (AreOthers slots names (take place names ++ name ∷ [])) (sym w.others-is)
          (others-led slots names (take place names) name old old c.loop-place.invariant (c.lead.ensures.led.0 w.if-not-lead.false))
    ] in
    subst (λ (first : List Name). AreOthers slots names first c.if-not-lead.others) (sym (take_more names place none less)) more
