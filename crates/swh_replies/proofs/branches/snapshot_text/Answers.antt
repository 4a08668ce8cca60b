use Rattle.std.proofs.Common.{rules, ◌≡◌, List, [], ap, ◌∙◌, subst}
use Rattle.serde_json.specs.Data.{object, member, no_members, string, Data, Members}
use Rattle.hex.specs.Hex.{encode_lower}
use Rattle.std.proofs.Common.{codes, ℕ}
use Rattle.swh_snpfmt.specs.Branches.{branches_in_body}
use Rattle.swh_replies.specs.Json.{branches_data, snapshot_data}
use Rattle.swh_replies.specs.Writes.{WritesValue}
use Rattle.swh_replies.proofs.Listed.{one, then}
use Rattle.swh_replies.proofs.Shown.{whole_text}
use Rattle.swh_replies.proofs.branches.snapshot_text.Goals as goal

pub returns : goal.returns
returns c =
    let opened = one {new = c.begin_object.new.self} c.in_ok-begin_object.ensures.ok c.in_ok-begin_object.ensures.room.0 in
    let keyed = one {new = c.key.new.self} c.in_ok-key.ensures.ok c.in_ok-key.ensures.room.0 in
    let closed = one {new = c.end_object.new.self} c.in_ok-end_object.ensures.ok c.in_ok-end_object.ensures.room.0 in
    let empty : c.new-writer.result.before ≡ [] = search rules in
    let is_own : c.as_str.result.now ≡ encode_lower c.args.id.now = c.as_str.ensures.value ∙ c.in_ok-own.ensures in
    let tree : Members → List ℕ → Data = λ branches own. object (member (codes "branches") (object branches) (member (codes "id") (string own) no_members)) in
    let same = ap (λ (ms : Members). tree ms c.as_str.result.now) c.in_ok-targets.ensures ∙ ap (λ (own : List ℕ). tree (branches_data (branches_in_body c.args.branches.now)) own) is_own in
    c.into_inner.ensures.items
    ∙ whole_text (snapshot_data c.args.id.now (branches_in_body c.args.branches.now)) empty c.new-writer.ensures.tokens
    (subst (λ (d : Data). WritesValue c.new-writer.result d c.end_object.new.self) same (then opened (then keyed (then c.in_ok-put_branches.ensures (then c.in_ok-put_text.ensures closed)))))
