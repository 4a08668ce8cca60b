use Rattle.std.proofs.Common.{◌∙◌, Some, None, sym, ap}
use Rattle.std.specs.Option.{option_copied}
use Rattle.swh_marks.proofs.OtherLemmas.{others-have}
use Rattle.swh_marks.proofs.marks.place_among.Goals as goal

pub unreachable-requires : goal.unreachable-requires
unreachable-requires c =
    others-have c.args.places.now c.args.names.now c.args.name.now c.args.others.now c.find.result None c.requires.others c.requires.there c.find.ensures.led c.in_default.is
    (sym (ap option_copied c.in-None.is) ∙ c.get.ensures.value)

pub returns-clause-less : goal.returns-clause-less
returns-clause-less c =
    (others-have c.args.places.now c.args.names.now c.args.name.now c.args.others.now c.find.result (Some c.in-Some-get.place.now) c.requires.others c.requires.there c.find.ensures.led c.in_default.is
    (sym (ap option_copied c.in-Some-get.is) ∙ c.get.ensures.value)).0

pub returns-clause-there : goal.returns-clause-there
returns-clause-there c =
    (others-have c.args.places.now c.args.names.now c.args.name.now c.args.others.now c.find.result (Some c.in-Some-get.place.now) c.requires.others c.requires.there c.find.ensures.led c.in_default.is
    (sym (ap option_copied c.in-Some-get.is) ∙ c.get.ensures.value)).1
