use Rattle.std.proofs.Common.{List, [], get_or, subst}
use Rattle.std.proofs.lemmas.List.{take_all}
use Rattle.std.proofs.lemmas.List.Elements.{Contains-get_or}
use Rattle.swh_base.specs.declared.kind.Kind.TheVariants.{Content}
use Rattle.swh_base.specs.declared.name.Name.{Name}
use Rattle.swh_fastcook.specs.Lengths.{HasLengthOf}
use Rattle.swh_fastcook.specs.Stream.{AreObjectTexts}
use Rattle.swh_fastcook.proofs.Lengths.{none_counted, more_counted}
use Rattle.swh_fastcook.proofs.length.each_length.Goals as goal

abbrev none : Name
none = record { kind = Content; id = [] }

pub loop-name-init : goal.loop-name-init
loop-name-init g c = none_counted (g.L.Look.archive c.args.look.now).bodies c.args.marks.now

pub object_length-requires-clause-there : goal.object_length-requires-clause-there
object_length-requires-clause-there g c =
    c.requires.there (get_or c.args.names.now c.loop-name.name-index none) (Contains-get_or c.args.names.now c.loop-name.name-index none c.loop-name-test.true)

pub object_length-requires-clause-plain : goal.object_length-requires-clause-plain
object_length-requires-clause-plain g c =
    c.requires.plain (get_or c.args.names.now c.loop-name.name-index none) (Contains-get_or c.args.names.now c.loop-name.name-index none c.loop-name-test.true)

pub loop-name-preserved : goal.loop-name-preserved
loop-name-preserved g c =
    more_counted (g.L.Look.archive c.args.look.now).bodies c.args.marks.now c.args.names.now c.loop-name.name-index none c.loop-name.count c.in_ok-more.more c.plus-count.result c.loop-name-test.true c.loop-name.invariant
    c.in_ok-more.ensures c.plus-count.ensures

pub returns : goal.returns
returns g c =
    subst (λ (ns : List Name). HasLengthOf (AreObjectTexts (g.L.Look.archive c.args.look.now).bodies c.args.marks.now ns) c.loop-name.count) (take_all c.loop-name.name-index c.args.names.now c.loop-name-test.false) c.loop-name.invariant
