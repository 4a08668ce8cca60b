use Rattle.std.proofs.Common.{ℕ, List, [], ◌∷◌, ◌++◌, length, subst, append_assoc}
use Rattle.swh_fastwrite.specs.Text.{tag_head, data_line}
use Rattle.swh_fastwrite.specs.Held.{Wrote, kept}
use Rattle.swh_marks.specs.Marks.{mark_of}
use Rattle.swh_fastcook.proofs.Texts.{pushed, wrote_both}
use Rattle.swh_fastcook.proofs.commits.write_tag.Goals as goal

pub returns-clause-bytes : goal.returns-clause-bytes
returns-clause-bytes g c =
    let old = kept c.args.taker.now c.args.held.now.items in
    let new = kept c.put_line.new.taker c.put_line.new.held.items in
    let plain = c.args.plain.now in
    let head = tag_head plain.tag (mark_of c.args.marks.now c.args.name) (mark_of c.args.marks.now plain.object) plain.tagger in
    let line = data_line (length plain.message) in
    subst (λ (t : List ℕ). Wrote g.T.Taker.takes g.T.Taker.takes_front old t new c.put_line.result) (append_assoc head line (plain.message ++ 10 ∷ []))
    (wrote_both g.T.Taker.takes g.T.Taker.takes_front g.met.T.Taker.adds_up old (kept c.args.taker.now c.push_tag_lines.new.held.items) new (head ++ line) (plain.message ++ 10 ∷ []) c.put_line.result
    (pushed g.T.Taker.takes g.T.Taker.takes_front g.met.T.Taker.adds_up c.args.taker.now c.args.held.now.items (head ++ line) c.push_tag_lines.new.held.items c.in_ok-push_tag_lines.ensures)
    (subst (λ (m : List ℕ). Wrote g.T.Taker.takes g.T.Taker.takes_front (kept c.args.taker.now c.push_tag_lines.new.held.items) (m ++ 10 ∷ []) new c.put_line.result) c.as_slice.ensures c.put_line.ensures.bytes))
