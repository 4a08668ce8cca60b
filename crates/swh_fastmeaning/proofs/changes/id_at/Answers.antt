use Rattle.std.proofs.Common.{[], ◌∷◌}
use Rattle.swh_model.specs.Meaning.{content}
use Rattle.swh_fastmeaning.proofs.ChangesMade.{inline_set}
use Rattle.swh_fastmeaning.proofs.changes.id_at.Goals as goal

pub returns-in_ok-add_content-in-Inline-clause-ok : goal.returns-in_ok-add_content-in-Inline-clause-ok
returns-in_ok-add_content-in-Inline-clause-ok g c ms h = record {
  more = content c.as_slice.result.now ∷ [];
  is = inline_set g.N.Namer.id_of c.args.aims.now c.args.at c.args.what.now _ c.as_slice.result.now c.in_ok-add_content-in-Inline.field-0 c.in-Inline.is c.as_slice.ensures c.in_ok-add_content-in-Inline.ensures.id;
  holds = c.in_ok-add_content-in-Inline.ensures.holds ms h;
}
