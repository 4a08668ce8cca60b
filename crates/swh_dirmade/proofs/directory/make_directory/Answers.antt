use Rattle.std.proofs.Common.{ap, ◌∙◌}
use Rattle.swh_base.specs.declared.name.Name.{Name}
use Rattle.swh_dirfmt.specs.Entries.{entry_views}
use Rattle.swh_dedup.specs.Making.{made, names_of_made}
use Rattle.swh_dirmade.proofs.Entries.{object_kids, object_named}
use Rattle.swh_dirmade.proofs.directory.make_directory.Goals as goal

pub directory_object-requires-after_bounds : goal.directory_object-requires-after_bounds
directory_object-requires-after_bounds g c κs within = (names_of_made g.N.Namer.id_of (made c.args.given.now), c.requires)

pub give-requires-after_bounds : goal.give-requires-after_bounds
give-requires-after_bounds g c κs within =
    let d = c.in_ok-object.ensures in
    object_kids g.N.Namer.id_of (names_of_made g.N.Namer.id_of (made c.args.given.now)) (entry_views c.args.list.items) d.0 c.in_ok-object.object c.requires d.1

pub returns : goal.returns
returns g c =
    let d = c.in_ok-object.ensures in
    let id = g.N.Namer.id_of in (
      d.0,
      record {
        order = d.1.order;
        good = d.1.good;
        named = c.whole_id-id.ensures.same ∙ ap (λ (n : Name). n.id) c.name.ensures.name ∙ object_named id (entry_views c.args.list.items) d.0 c.in_ok-object.object d.1;
        twenty = c.whole_id-id.ensures.id.0;
        object = c.in_ok-object.object;
        is = d.1.is;
        whole = d.1.whole;
        gives = c.in_ok-give.ensures;
      },
    )
