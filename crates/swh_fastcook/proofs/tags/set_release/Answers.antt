use Rattle.std.proofs.Common.{sym, ap, ◌∙◌}
use Rattle.swh_revfmt.specs.Reading.{release_spelled}
use Rattle.swh_fastcook.specs.Loaded.{tags_in}
use Rattle.swh_fastcook.proofs.TagMaps.{insert_in}
use Rattle.swh_fastcook.proofs.tags.set_release.Goals as goal

pub returns : goal.returns
returns g c = (
  release_spelled c.in-Ok.release,
  c.in-Ok.ensures.ok,
  ap tags_in c.in_ok-insert.ensures.entries ∙ sym (insert_in c.args.tags.now.entries c.in-Ok.release.tag c.args.name.id),
)
