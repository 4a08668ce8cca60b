use Rattle.std.proofs.Common.{List, ℕ, Some, ap, ◌∙◌}
use Rattle.swh_dedup.specs.declared.seen.Kept.{Kept}
use Rattle.swh_dedup.specs.Making.{object_of}
use Rattle.swh_dedup.proofs.Sharings.{kept_again}
use Rattle.swh_dedup.proofs.seen.share_body.Goals as goal

pub returns : goal.returns
returns c =
    let kept : Kept = record { kind = c.args.name.now.kind; body = c.args.body } in
    kept_again c.args.made.now c.in-Some.place kept (c.in-Some.ensures.found ∙ ap (λ (body : List ℕ). Some (object_of c.args.name.now.kind body)) c.as_slice.ensures)
