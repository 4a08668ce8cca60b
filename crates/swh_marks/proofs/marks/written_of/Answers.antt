use Rattle.std.proofs.Common.{[], ap, ◌∙◌}
use Rattle.std.proofs.lemmas.List.{take_all}
use Rattle.swh_base.specs.declared.kind.Kind.TheVariants.{Content}
use Rattle.swh_base.specs.declared.name.Name.{Name}
use Rattle.swh_marks.specs.Marks.{written}
use Rattle.swh_marks.proofs.Marked.{written_more}
use Rattle.swh_marks.proofs.marks.written_of.Goals as goal

abbrev none : Name
none = record { kind = Content; id = [] }

pub loop-name-preserved : goal.loop-name-preserved
loop-name-preserved c =
    written_more c.args.order.now c.loop-name.name-index none c.loop-name.names.items c.add_written.new.names.items c.loop-name-test.true c.loop-name.invariant c.in_ok-add_written.ensures

pub returns : goal.returns
returns c = c.loop-name.invariant ∙ ap written (take_all c.loop-name.name-index c.args.order.now c.loop-name-test.false)
