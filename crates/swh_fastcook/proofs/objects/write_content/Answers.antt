use Rattle.std.proofs.Common.{ℕ, List, refl, subst}
use Rattle.swh_fastwrite.specs.Text.{blob_text}
use Rattle.swh_fastwrite.specs.Held.{Wrote, kept}
use Rattle.swh_marks.specs.Marks.{mark_of}
use Rattle.swh_fastcook.specs.Stream.{IsBlob}
use Rattle.swh_fastcook.proofs.ObjectTexts.{one_blob, wrote_one}
use Rattle.swh_fastcook.proofs.objects.write_content.Goals as goal

pub returns-clause-bytes : goal.returns-clause-bytes
returns-clause-bytes g c =
    let bodies = (g.L.Look.archive c.args.look.now).bodies in
    let order = c.args.marks.now in
    let old = kept c.args.taker.now c.args.held.now.items in
    let new = kept c.write_blob.new.taker c.write_blob.new.held.items in
    let body = c.body_at-body.result.now in
    let text = blob_text (mark_of order c.args.name) body in
    let is : IsBlob bodies order c.args.name text = record { body = body; held = c.body_at-body.ensures; is = refl } in
    let wrote = subst (λ (b : List ℕ). Wrote g.T.Taker.takes g.T.Taker.takes_front old (blob_text c.get.result b) new c.write_blob.result) c.as_slice.ensures c.write_blob.ensures.bytes in
    wrote_one g.T.Taker.takes g.T.Taker.takes_front old new c.write_blob.result (IsBlob bodies order c.args.name) text is (λ t has. one_blob bodies order c.args.name t text has is)
    (subst (λ (m : ℕ). Wrote g.T.Taker.takes g.T.Taker.takes_front old (blob_text m body) new c.write_blob.result) c.get.ensures wrote)
