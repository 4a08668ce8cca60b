use Rattle.std.proofs.Common.{ℕ, List, [], ◌∷◌, ◌++◌, length, subst}
use Rattle.swh_fastwrite.specs.Text.{blob_head}
use Rattle.swh_fastwrite.specs.Held.{Wrote, kept}
use Rattle.swh_fastcook.proofs.CommitTexts.{blob_is}
use Rattle.swh_fastcook.proofs.Texts.{pushed, wrote_both}
use Rattle.swh_fastcook.proofs.commits.write_blob.Goals as goal

pub returns-clause-bytes : goal.returns-clause-bytes
returns-clause-bytes g c =
    let old = kept c.args.taker.now c.args.held.now.items in
    let new = kept c.put_line.new.taker c.put_line.new.held.items in
    let first = blob_head c.args.mark (length c.args.body.now) in
    subst (λ (t : List ℕ). Wrote g.T.Taker.takes g.T.Taker.takes_front old t new c.put_line.result) (blob_is c.args.mark c.args.body.now)
    (wrote_both g.T.Taker.takes g.T.Taker.takes_front g.met.T.Taker.adds_up old (kept c.args.taker.now c.push_blob_head.new.out.items) new first (c.args.body.now ++ 10 ∷ []) c.put_line.result
    (pushed g.T.Taker.takes g.T.Taker.takes_front g.met.T.Taker.adds_up c.args.taker.now c.args.held.now.items first c.push_blob_head.new.out.items c.in_ok-push_blob_head.ensures)
    c.put_line.ensures.bytes)
