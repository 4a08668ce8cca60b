use Rattle.std.proofs.Common.{◌≡◌, ◌++◌, List, ℕ, sym, ap, subst, ◌∙◌}
use Rattle.swh_entries.specs.Keys.{texts, name_at, entry_key}
use Rattle.swh_forest.specs.Ordered.{IsAbove}
use Rattle.swh_forest.proofs.Arenas.{if_ok}
use Rattle.swh_forest.proofs.Orders.{with-at}
use Rattle.swh_forest.proofs.Steps.{text-at}
use Rattle.swh_forest.proofs.node.with_entry.Goals as goal

pub returns : goal.returns
returns c =
    let names = c.args.names.now in
    let e = c.args.entry in
    let text : c.as_slice-name.result.now ≡ name_at (texts c.args.names.now) e.name = c.as_slice-name.ensures.value ∙ sym (text-at c.args.names.now e.name c.index-names-entry.result c.requires.entry c.index-names-entry.is) in
    let key : c.as_slice-name.result.now ++ c.suffix-end.result.now ≡ entry_key (texts c.args.names.now) e = ap (λ (n : List ℕ). n ++ c.suffix-end.result.now) text ∙ ap (λ (n : List ℕ). name_at (texts names) e.name ++ n) c.suffix-end.ensures in
    let above = subst (λ (k : List ℕ). IsAbove (texts names) k c.args.node.items c.above-gap.result.place) key c.above-gap.ensures.above in
    if_ok c.with.result (λ p is. is ∙ sym (with-at (texts names) e c.args.node.items c.above-gap.result.place above)) c.with.ensures.items
