use Rattle.std.proofs.Common.{◌≡◌, List, [], get_or, take, subst}
use Rattle.std.specs.Prelude.{Contains}
use Rattle.std.proofs.lemmas.List.{take_all}
use Rattle.std.proofs.lemmas.List.Elements.{Contains-get_or}
use Rattle.swh_base.specs.declared.kind.Kind.TheVariants.{Content}
use Rattle.swh_base.specs.declared.name.Name.{Name}
use Rattle.swh_pathsums.specs.Tallies.{HaveTallies}
use Rattle.swh_pathsums.proofs.Kept.{none_have, more_have, kids_have, lengths_are}
use Rattle.swh_pathsums.proofs.sums.path_sums.Goals as goal

abbrev none : Name
none = record { kind = Content; id = [] }

pub loop-name-init : goal.loop-name-init
loop-name-init g c = none_have (g.L.Look.archive c.args.look.now).bodies (g.W.Weigh.weight_of c.args.weigher.now) c.new-sums.result

pub add_name-requires-clause-there : goal.add_name-requires-clause-there
add_name-requires-clause-there g c = Contains-get_or c.args.order.now c.loop-name.name-index none c.loop-name-test.true

pub add_name-requires-clause-known : goal.add_name-requires-clause-known
add_name-requires-clause-known g c kind =
    kids_have (g.L.Look.archive c.args.look.now).bodies (g.W.Weigh.weight_of c.args.weigher.now) (g.L.Graph.children_of c.args.look.now) c.args.order.now c.requires.order.preceded c.loop-name.name-index none c.loop-name.sums
    c.loop-name-test.true c.loop-name.invariant kind

pub loop-name-preserved : goal.loop-name-preserved
loop-name-preserved g c =
    more_have (g.L.Look.archive c.args.look.now).bodies (g.W.Weigh.weight_of c.args.weigher.now) c.args.order.now c.loop-name.name-index none c.loop-name.sums c.add_name.new.sums c.loop-name-test.true c.loop-name.invariant
    c.in_ok-add_name.ensures

pub returns : goal.returns
returns g c =
    lengths_are (g.L.Look.archive c.args.look.now).bodies (g.W.Weigh.weight_of c.args.weigher.now) c.args.order.now c.loop-name.sums
    (subst (HaveTallies (g.L.Look.archive c.args.look.now).bodies (g.W.Weigh.weight_of c.args.weigher.now) c.loop-name.sums) (take_all c.loop-name.name-index c.args.order.now c.loop-name-test.false) c.loop-name.invariant)
