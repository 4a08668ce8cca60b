use Rattle.std.proofs.lemmas.Result.{err_from_is_err_and}
use Rattle.swh_object.proofs.Refused.{made_unless}
use Rattle.swh_object.proofs.object.Object.of_shared.Goals as goal

pub returns-in_err-kids-clause-only : goal.returns-in_err-kids-clause-only
returns-in_err-kids-clause-only g c =
    let p = err_from_is_err_and c.from_residual.result c.from_residual.ensures.1 in
    let told = rw c.as_slice-2.ensures at c.in_err-kids.ensures.err in
    λ _ well. rw (p.1, p.2) (made_unless c.args.kind c.args.body c.in_err-kids.field-0.0 told well)
