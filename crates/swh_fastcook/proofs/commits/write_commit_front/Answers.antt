use Rattle.std.proofs.Common.{ℕ, List, [], ◌∷◌, ◌++◌, length, ap, ◌∙◌, subst}
use Rattle.swh_revfmt.specs.PlainReading.{plain_revision}
use Rattle.swh_fastwrite.specs.Text.{commit_head, data_line}
use Rattle.swh_fastwrite.specs.Held.{kept, Goes}
use Rattle.swh_fastwrite.proofs.Pieces.{front_none}
use Rattle.swh_fastcook.specs.Stream.{beginning, commit_front}
use Rattle.swh_fastcook.proofs.CommitTexts.{message_broke, parents_broke, front_done}
use Rattle.swh_fastcook.proofs.Texts.{stopped}
use Rattle.swh_fastcook.proofs.commits.write_commit_front.Goals as goal

pub returns-in_err-push_commit_lines-clause-bytes : goal.returns-in_err-push_commit_lines-clause-bytes
returns-in_err-push_commit_lines-clause-bytes g c =
    let old = kept c.args.taker.now c.args.held.now.items in
    let text = commit_front c.args.marks.now c.args.name (plain_revision c.args.plain.now) in
    stopped g.T.Taker.takes g.T.Taker.takes_front old (kept c.args.taker.now c.push_commit_lines.new.held.items) c.from_residual.result c.from_residual.ensures.0 text
    (front_none g.T.Taker.takes g.T.Taker.takes_front g.met.T.Taker.adds_up old text)

pub returns-in_err-put_line-clause-bytes : goal.returns-in_err-put_line-clause-bytes
returns-in_err-put_line-clause-bytes g c =
    let old = kept c.args.taker.now c.args.held.now.items in
    let plain = c.args.plain.now in
    let marked = ap (λ (m : ℕ). c.args.held.now.items ++ (beginning plain.parents ++ (commit_head m plain.author plain.committer plain.encoding ++ data_line (length plain.message)))) c.get.ensures in
    stopped g.T.Taker.takes g.T.Taker.takes_front old (kept c.put_line.new.taker c.put_line.new.held.items) c.from_residual-in_err-put_line.result c.from_residual-in_err-put_line.ensures.0
    (commit_front c.args.marks.now c.args.name (plain_revision plain))
    (message_broke g.T.Taker.takes g.T.Taker.takes_front g.met.T.Taker.adds_up c.args.marks.now c.args.name (plain_revision plain) old c.push_commit_lines.new.held.items (c.in_ok-push_commit_lines.ensures ∙ marked) c.put_line.new.taker
    (subst (λ (m : List ℕ). g.T.Taker.takes_front c.args.taker.now (c.push_commit_lines.new.held.items ++ (m ++ 10 ∷ [])) c.put_line.new.taker) c.as_slice.ensures c.in_err-put_line.ensures.bytes.err))

pub returns-in_err-push_parent_lines-clause-bytes : goal.returns-in_err-push_parent_lines-clause-bytes
returns-in_err-push_parent_lines-clause-bytes g c =
    let old = kept c.args.taker.now c.args.held.now.items in
    let now = kept c.put_line.new.taker c.put_line.new.held.items in
    let plain = c.args.plain.now in
    let marked = ap (λ (m : ℕ). c.args.held.now.items ++ (beginning plain.parents ++ (commit_head m plain.author plain.committer plain.encoding ++ data_line (length plain.message)))) c.get.ensures in
    stopped g.T.Taker.takes g.T.Taker.takes_front old (kept c.put_line.new.taker c.push_parent_lines.new.held.items) c.from_residual-in_err-push_parent_lines.result c.from_residual-in_err-push_parent_lines.ensures.0
    (commit_front c.args.marks.now c.args.name (plain_revision plain))
    (parents_broke g.T.Taker.takes g.T.Taker.takes_front g.met.T.Taker.adds_up c.args.marks.now c.args.name (plain_revision plain) old c.push_commit_lines.new.held.items (c.in_ok-push_commit_lines.ensures ∙ marked) now
    (subst (λ (m : List ℕ). Goes g.T.Taker.takes g.T.Taker.takes_front (kept c.args.taker.now c.push_commit_lines.new.held.items) (m ++ 10 ∷ []) now) c.as_slice.ensures c.in_ok-put_line.ensures.bytes.ok))

pub returns-clause-bytes : goal.returns-clause-bytes
returns-clause-bytes g c =
    let old = kept c.args.taker.now c.args.held.now.items in
    let now = kept c.put_line.new.taker c.put_line.new.held.items in
    let plain = c.args.plain.now in
    let marked = ap (λ (m : ℕ). c.args.held.now.items ++ (beginning plain.parents ++ (commit_head m plain.author plain.committer plain.encoding ++ data_line (length plain.message)))) c.get.ensures in
    record {
      ok =
          front_done g.T.Taker.takes g.T.Taker.takes_front g.met.T.Taker.adds_up c.args.marks.now c.args.name (plain_revision plain) old c.push_commit_lines.new.held.items (c.in_ok-push_commit_lines.ensures ∙ marked) now
          (subst (λ (m : List ℕ). Goes g.T.Taker.takes g.T.Taker.takes_front (kept c.args.taker.now c.push_commit_lines.new.held.items) (m ++ 10 ∷ []) now) c.as_slice.ensures c.in_ok-put_line.ensures.bytes.ok)
          c.push_parent_lines.new.held.items c.in_ok-push_parent_lines.ensures;
      err = tt;
    }
