use Rattle.std.proofs.Common.{◌≡◌, ℕ, ◌+◌, ◌++◌, List, length, ap, ◌∙◌, subst, codes}
use Rattle.swh_revfmt.specs.PlainReading.{plain_revision}
use Rattle.swh_fastwrite.specs.Text.{commit_head, data_line}
use Rattle.swh_pathsums.specs.Lengths.{IsUpTo}
use Rattle.swh_fastcook.specs.Stream.{beginning, parents_text, files_text}
use Rattle.swh_fastcook.proofs.Lengths.{commit_count}
use Rattle.swh_fastcook.proofs.length.commit_length.Goals as goal

pub returns : goal.returns
returns c rows files =
    let plain = c.args.plain.now in
    let order = c.args.marks.now in
    let lines = c.in_ok-lines.lines in
    let marked =
    c.in_ok-lines.ensures
    ∙ ap (λ (m : ℕ). length ((beginning plain.parents ++ (commit_head m plain.author plain.committer plain.encoding ++ data_line (length plain.message))) ++ (parents_text order plain.parents ++ codes "deleteall\n"))) c.get.ensures in
    let front = subst (λ (m : List ℕ). IsUpTo (lines + length m + 2) c.with_bytes-front.result) c.as_slice.ensures c.with_bytes-front.ensures in
    subst (λ (n : ℕ). IsUpTo n c.plus.result) (commit_count order c.args.name (plain_revision plain) rows lines marked) (c.plus.ensures (lines + length plain.message + 2) (length (files_text order rows)) front files)
