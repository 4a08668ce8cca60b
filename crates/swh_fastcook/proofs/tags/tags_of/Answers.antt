use Rattle.std.proofs.Common.{[], List, get_or, subst}
use Rattle.std.proofs.lemmas.List.{take_all}
use Rattle.std.proofs.lemmas.List.Elements.{Contains-get_or}
use Rattle.swh_base.specs.declared.kind.Kind.TheVariants.{Content}
use Rattle.swh_base.specs.declared.name.Name.{Name}
use Rattle.swh_fastcook.specs.Loaded.{SetTags, tags_in}
use Rattle.swh_fastcook.proofs.TagMaps.{tags_more}
use Rattle.swh_fastcook.proofs.tags.tags_of.Goals as goal

abbrev none : Name
none = record { kind = Content; id = [] }

pub set_tag-requires : goal.set_tag-requires
set_tag-requires g c = c.requires (get_or c.args.order.now c.loop-name.name-index none) (Contains-get_or c.args.order.now c.loop-name.name-index none c.loop-name-test.true)

pub loop-name-preserved : goal.loop-name-preserved
loop-name-preserved g c =
    tags_more (g.L.Look.archive c.args.look.now).bodies c.args.order.now c.loop-name.name-index none c.loop-name-test.true [] (tags_in c.loop-name.tags.entries) (tags_in c.set_tag.new.tags.entries)
    c.loop-name.invariant c.in_ok-set_tag.ensures

pub returns : goal.returns
returns g c =
    subst (λ (ns : List Name). SetTags (g.L.Look.archive c.args.look.now).bodies ns [] (tags_in c.loop-name.tags.entries)) (take_all c.loop-name.name-index c.args.order.now c.loop-name-test.false) c.loop-name.invariant
