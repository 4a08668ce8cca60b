use Rattle.std.proofs.Common.{◌≡◌, string_bytes, ◌∙◌}
use Rattle.swh_outside.specs.Listing.{listed}
use Rattle.swh_outside.specs.declared.folder.Item.{Item}
use Rattle.swh_memory_input.proofs.Trees.{copied-more}
use Rattle.swh_memory_input.proofs.folder.copy_items.Goals as goal

pub loop-item-preserved : goal.loop-item-preserved
loop-item-preserved c =
    let item = c.item-item.result in
    let one : Item = record { name = c.in_ok-name.name; what = item.what } in
    let name : string_bytes one.name ≡ string_bytes item.name = c.in_ok-name.ensures.ok ∙ c.as_str.ensures.value in
    let same : listed one ≡ listed item = λ k. record { name = name k; what = item.what } in
    copied-more c.loop-item.copy.items c.push.new.self.items c.args.items.now c.loop-item.item-index item one c.loop-item-test.true c.item-item.is same c.in_ok-push.ensures.items c.loop-item.invariant
