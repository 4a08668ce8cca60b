use Rattle.std.proofs.Common.{rules, ◌≡◌, ◌≤◌, ◌++◌, List, length, sym, ap, ◌∙◌, arith}
use Rattle.std.specs.List.{insert}
use Rattle.std.specs.Rc.{rc_value}
use Rattle.std.proofs.lemmas.List.Edits.{insert-append_right}
use Rattle.swh_entries.specs.declared.entry.Entry.{Entry}
use Rattle.swh_entries.specs.Spans.{items_of}
use Rattle.swh_entries.proofs.spans.+put_in_place.Goals as goal

pub returns-else-not-put-2-clause-put : goal.returns-else-not-put-2-clause-put
returns-else-not-put-2-clause-put t c =
    let left = items_of c.in-Fork.left.value in
    let right = items_of c.in-Fork.right.value in
    let whole : items_of (rc_value c.args.span.now) ≡ left ++ right = search rules in
    let n : length left ≡ c.len_of-before.result = search rules in
    let le : c.len_of-before.result ≤ c.args.place = omega arith in
    let e = insert-append_right left right c.len_of-before.result c.args.place c.args.entry n le in
    λ yes. ap (λ (es : List Entry). left ++ es) (c.if-not-put-2.ensures.put yes) ∙ sym e ∙ ap (λ (es : List Entry). insert es c.args.place c.args.entry) (sym whole)
