use Rattle.std.proofs.Common.{ℕ, ◌+◌, List, length, subst}
use Rattle.swh_fastwrite.specs.Text.{tag_head, data_line}
use Rattle.swh_marks.specs.Marks.{mark_of}
use Rattle.swh_pathsums.specs.Lengths.{IsUpTo}
use Rattle.swh_fastcook.proofs.Lengths.{tag_count}
use Rattle.swh_fastcook.proofs.length.tag_length.Goals as goal

pub returns : goal.returns
returns c =
    let plain = c.args.plain.now in
    let head = tag_head plain.tag (mark_of c.args.marks.now c.args.name) (mark_of c.args.marks.now plain.object) plain.tagger in
    subst (λ (n : ℕ). IsUpTo n c.with_bytes.result) (tag_count head (data_line (length plain.message)) plain.message c.in_ok-front.front c.in_ok-front.ensures)
    (subst (λ (m : List ℕ). IsUpTo (c.in_ok-front.front + length m + 1) c.with_bytes.result) c.as_slice.ensures c.with_bytes.ensures)
