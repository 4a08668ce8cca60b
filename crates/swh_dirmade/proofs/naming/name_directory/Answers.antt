use Rattle.std.proofs.Common.{◌∷◌, [], ◌++◌, inr, refl, ap, ◌∙◌}
use Rattle.swh_base.specs.declared.name.Name.{Name}
use Rattle.swh_dirfmt.specs.Entries.{entry_views}
use Rattle.swh_dirmade.proofs.Entries.{object_named}
use Rattle.swh_dirmade.proofs.naming.name_directory.Goals as goal

pub returns : goal.returns
returns g c = λ old.
    let d = c.in_ok-object.ensures in (
      old ++ c.in_ok-object.object ∷ [],
      d.0,
      record {
        order = d.1.order;
        good = d.1.good;
        named = c.whole_id.ensures.same ∙ ap (λ (n : Name). n.id) c.name.ensures.name ∙ object_named g.N.Namer.id_of (entry_views c.args.list.items) d.0 c.in_ok-object.object d.1;
        twenty = c.whole_id.ensures.id.0;
        object = c.in_ok-object.object;
        is = d.1.is;
        whole = d.1.whole;
        gives = inr refl;
      },
    )
