use Rattle.std.specs.Option.{option_copied}
use Rattle.swh_trees.specs.Grove.{map_of}
use Rattle.swh_fastmeaning.specs.Aims.{aims_with}
use Rattle.swh_fastmeaning.specs.Ending.{ExplainsEnd}
use Rattle.swh_fastmeaning.proofs.ChangesMade.{if_err}
use Rattle.swh_fastmeaning.proofs.HeadSides.{tips_good, end_same, ends_parts, kids_given}
use Rattle.swh_fastload.proofs.ending.end_parts.Goals as goal

pub make_snapshot-requires-clause-branches : goal.make_snapshot-requires-clause-branches
make_snapshot-requires-clause-branches g c κs within =
    tips_good g.N.Namer.id_of c.args.parts.now.trees.made c.args.parts.now.seen c.args.parts.now.aims.tips c.requires.stocked.ids c.requires.stocked.among.tips

pub returns-clause-ok : goal.returns-clause-ok
returns-clause-ok g c = ends_parts (map_of c.args.parts.now.trees) (option_copied c.args.head) c.args.parts.now.aims c.args.parts.now.seen c.make_snapshot.result c.make_snapshot.ensures.snapshot c.make_snapshot.ensures.few

pub returns-clause-err : goal.returns-clause-err
returns-clause-err g c =
    let f = map_of c.args.parts.now.trees in
    if_err (ExplainsEnd (option_copied c.args.head) c.args.parts.now.aims) (ExplainsEnd (option_copied c.args.head) (aims_with f c.args.parts.now.aims)) c.make_snapshot.result c.make_snapshot.ensures.err
    (end_same f (option_copied c.args.head) c.args.parts.now.aims)

pub returns-clause-kids : goal.returns-clause-kids
returns-clause-kids g c = kids_given g.N.Namer.id_of c.args.parts.now.trees.made (option_copied c.args.head) c.args.parts.now.aims c.args.parts.now.seen c.make_snapshot.result c.requires.stocked.among.tips c.make_snapshot.ensures.snapshot c.make_snapshot.ensures.branches c.make_snapshot.ensures.object
