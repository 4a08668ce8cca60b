use Rattle.std.proofs.Common.{ℕ, List, length, refl, subst}
use Rattle.std.proofs.lemmas.Result.{IfOk-weaker}
use Rattle.swh_fastwrite.specs.Text.{blob_text}
use Rattle.swh_marks.specs.Marks.{mark_of}
use Rattle.swh_pathsums.specs.Lengths.{IsUpTo}
use Rattle.swh_fastcook.specs.Lengths.{HasLengthOf}
use Rattle.swh_fastcook.specs.Stream.{IsBlob}
use Rattle.swh_fastcook.proofs.length.content_length.Goals as goal

pub returns : goal.returns
returns g c =
    let bodies = (g.L.Look.archive c.args.look.now).bodies in
    let order = c.args.marks.now in
    let body = c.body_at-body.result.now in
    let text = blob_text (mark_of order c.args.name) body in
    let is : IsBlob bodies order c.args.name text = record { body = body; held = c.body_at-body.ensures; is = refl } in
    IfOk-weaker c.blob_length.result (IsUpTo (length (blob_text c.get.result c.as_slice.result.now))) (HasLengthOf (IsBlob bodies order c.args.name))
    (λ n up. record { text = text; is = is; long = subst (λ (b : List ℕ). IsUpTo (length (blob_text (mark_of order c.args.name) b)) n) c.as_slice.ensures (subst (λ (m : ℕ). IsUpTo (length (blob_text m c.as_slice.result.now)) n) c.get.ensures up) })
    c.blob_length.ensures
