use Rattle.std.proofs.Common.{rules, ◌≡◌, ◌≤◌, ◌++◌, ◌-◌, List, length, IfOk, sym, ap, subst, ◌∙◌, arith}
use Rattle.std.specs.List.{insert}
use Rattle.std.specs.Rc.{rc_value}
use Rattle.std.proofs.lemmas.List.Edits.{insert-append_right}
use Rattle.swh_entries.specs.declared.entry.Entry.{Entry}
use Rattle.swh_entries.specs.Spans.{items_of}
use Rattle.swh_entries.proofs.spans.piece_with.Goals as goal

pub returns-in_ok-right-2-clause-items : goal.returns-in_ok-right-2-clause-items
returns-in_ok-right-2-clause-items c =
    let first = c.in_ok-first.first.items in
    let second = c.in_ok-first.second.items in
    let whole : first ++ second ≡ c.args.entries.items = search rules in
    let n : length first ≡ c.len-before.result = search rules in
    let le : c.len-before.result ≤ c.args.place = omega arith in
    let e = insert-append_right first second c.len-before.result c.args.place c.args.entry n le in
    let left : items_of c.in_ok-left-2.left.value ≡ first = search rules in
    let right : items_of c.in_ok-right-2.right.value ≡ insert second (c.args.place - c.len-before.result) c.args.entry = search rules in
    let is : items_of c.in_ok-left-2.left.value ++ items_of c.in_ok-right-2.right.value ≡ insert c.args.entries.items c.args.place c.args.entry = ap (λ (es : List Entry). es ++ items_of c.in_ok-right-2.right.value) left ∙ ap (λ (es : List Entry). first ++ es) right ∙ sym e ∙ ap (λ (es : List Entry). insert es c.args.place c.args.entry) whole in
    subst (λ (es : List Entry). IfOk c.fork-else-place-before.result (λ s. items_of (rc_value s) ≡ es)) is c.fork-else-place-before.ensures.items
