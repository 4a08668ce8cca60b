use Rattle.std.proofs.lemmas.Result.{err_from_is_err_and}
use Rattle.swh_fastmeaning.specs.Tips.{aim_of}
use Rattle.swh_fastmeaning.specs.Parting.{stock_of}
use Rattle.swh_fastmeaning.proofs.Leadings.{blob_leads, blob_refused}
use Rattle.swh_fastload.proofs.feeding.feed_blob.Goals as goal

pub returns-in_err-target-clause-err : goal.returns-in_err-target-clause-err
returns-in_err-target-clause-err g c =
    let p = err_from_is_err_and c.from_residual.result c.from_residual.ensures.1 in
    rw (p.1, p.2) (blob_refused g.N.Namer.id_of (stock_of c.args.parts.now) c.requires c.args.mark c.args.body.items c.in_err-target.field-0.0 c.in_err-target.ensures.err)

pub returns-clause-ok : goal.returns-clause-ok
returns-clause-ok g c =
    blob_leads g.N.Namer.id_of (stock_of c.args.parts.now) c.requires c.args.mark c.args.body.items (aim_of c.in_ok-target.target) c.give_own.new.seen c.set_mark.new.self c.in_ok-target.objects.items c.in_ok-target.ensures.ok
    c.in_ok-set_mark.ensures.ok
