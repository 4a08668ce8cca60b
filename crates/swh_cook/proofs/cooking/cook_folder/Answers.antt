use Rattle.swh_cook.proofs.Folders.{whole_folder, no_folder}
use Rattle.swh_cook.proofs.cooking.cook_folder.Goals as goal

pub returns-in-Ok-clause-ok : goal.returns-in-Ok-clause-ok
returns-in-Ok-clause-ok g c =
    whole_folder (g.L.Look.archive c.args.look.now).bodies (g.L.Graph.children_of c.args.look.now) c.args.name c.requires c.args.out.now g.Y.Sink.tells _ _ c.is_of_bytes.ensures c.in-Ok.ensures.carried c.in-Ok.ensures.made

pub returns-in-Err-clause-err : goal.returns-in-Err-clause-err
returns-in-Err-clause-err g c =
    no_folder (g.L.Look.archive c.args.look.now).bodies (g.L.Graph.children_of c.args.look.now) c.args.name c.requires c.args.out.now g.Y.Sink.tells _ _ _ c.in-Err.fault c.in-Err.ensures.err

pub returns-in-Ok-clause-cause : goal.returns-in-Ok-clause-cause
returns-in-Ok-clause-cause g c = record { later = c.in-Ok.ensures.cause.later; failed = tt; quiet = c.in-Ok.ensures.cause.quiet }

pub returns-in-Err-clause-cause : goal.returns-in-Err-clause-cause
returns-in-Err-clause-cause g c = record {
  later = c.in-Err.ensures.cause.later;
  failed = c.in-Err.ensures.cause.failed;
  quiet = tt;
}
