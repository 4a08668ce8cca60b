use Rattle.std.proofs.Common.{true, false, sym, ◌∙◌}
use Rattle.swh_http.proofs.Fields.{close-cut, close-one}
use Rattle.swh_http.proofs.field.has_close.Goals as goal

pub returns-then-is_close : goal.returns-then-is_close
returns-then-is_close c =
    let some = c.in-Some.ensures.some in
    sym (sym c.items.invariant ∙ close-cut c.items.rest.now c.in-Some.item.now c.in-Some.more.now true some.0 some.1 (sym c.if-is_close.ensures))

pub items-preserved : goal.items-preserved
items-preserved c =
    let some = c.in-Some.ensures.some in
    sym (close-cut c.items.rest.now c.in-Some.item.now c.in-Some.more.now false some.0 some.1 (sym c.if-is_close.ensures)) ∙ c.items.invariant

pub returns : goal.returns
returns c = c.is_close-2.ensures ∙ sym (close-one c.items.rest.now c.in_default.ensures.none) ∙ c.items.invariant
