use Rattle.std.proofs.Common.{rules, ◌≡◌, ◌≤◌, ◌++◌, List, length, IfOk, sym, ap, subst, ◌∙◌, arith}
use Rattle.std.specs.List.{remove}
use Rattle.std.specs.Rc.{rc_value}
use Rattle.std.proofs.lemmas.List.Edits.{remove-append_right}
use Rattle.swh_entries.specs.declared.entry.Entry.{Entry}
use Rattle.swh_entries.specs.Spans.{items_of}
use Rattle.swh_entries.proofs.spans.+without.Goals as goal

pub returns-in_ok-changed-in-Fork-2-clause-items : goal.returns-in_ok-changed-in-Fork-2-clause-items
returns-in_ok-changed-in-Fork-2-clause-items t c =
    let left = items_of c.in-Fork.left.value in
    let right = items_of c.in-Fork.right.value in
    let whole : items_of c.args.span.value ≡ left ++ right = sym c.in_ok-entries.ensures.items ∙ ap items_of c.in-Fork.is in
    let n : length left ≡ c.len_of-before.result = search rules in
    let le : c.len_of-before.result ≤ c.args.place = omega arith in
    let e = remove-append_right left right c.len_of-before.result c.args.place n le in
    let is : left ++ items_of c.in_ok-changed-in-Fork-2.changed.value ≡ remove (items_of c.args.span.value) c.args.place = ap (λ (es : List Entry). left ++ es) c.in_ok-changed-in-Fork-2.ensures.items ∙ sym e ∙ ap (λ (es : List Entry). remove es c.args.place) (sym whole) in
    subst (λ (es : List Entry). IfOk c.joined-else-place-before.result (λ s. items_of (rc_value s) ≡ es)) is c.joined-else-place-before.ensures.items
