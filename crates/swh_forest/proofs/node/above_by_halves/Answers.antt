use Rattle.std.proofs.Common.{◌≡◌, ◌+◌, ◌-◌, ◌/◌, ◌++◌, ◌<◌, true, false, length, sym, ◌∙◌, arith}
use Rattle.swh_entries.specs.Keys.{texts, entry_key, is_before}
use Rattle.swh_forest.proofs.Orders.{above-step, below-step, middle, name-of}
use Rattle.swh_forest.proofs.node.above_by_halves.Goals as goal

pub comes_before-before-requires : goal.comes_before-before-requires
comes_before-before-requires c =
    let m = middle c.halves.low c.halves.high c.halves-test.true in
    let lt : c.halves.low + (c.halves.high - c.halves.low) / 2 < length c.args.node.now.items = let i = c.halves.invariant.inside in omega (arith, m.1, i) in
    name-of (length c.args.names.now) c.args.node.now.items (c.halves.low + (c.halves.high - c.halves.low) / 2) c.at.result c.requires.names lt (c.at.ensures c.at.result)

pub halves-preserved-then-before : goal.halves-preserved-then-before
halves-preserved-then-before c =
    let m = middle c.halves.low c.halves.high c.halves-test.true in
    let here : is_before (c.args.name.now ++ c.args.end.now) (entry_key (texts c.args.names.now) c.at.result) ≡ true = sym c.comes_before-before.ensures ∙ c.if-before.true in
    record {
      within = m.0;
      inside = let i = c.halves.invariant.inside in omega (arith, m.1, i);
      below = c.halves.invariant.below;
      over = above-step (texts c.args.names.now) (c.args.name.now ++ c.args.end.now) c.args.node.now.items (c.halves.low + (c.halves.high - c.halves.low) / 2) c.at.result c.requires.ordered (c.at.ensures c.at.result) here;
    }

pub halves-preserved : goal.halves-preserved
halves-preserved c =
    let m = middle c.halves.low c.halves.high c.halves-test.true in
    let lt : c.halves.low + (c.halves.high - c.halves.low) / 2 < length c.args.node.now.items = let i = c.halves.invariant.inside in omega (arith, m.1, i) in
    let here : is_before (c.args.name.now ++ c.args.end.now) (entry_key (texts c.args.names.now) c.at.result) ≡ false = sym c.comes_before-before.ensures ∙ c.if-before.false in
    let past = below-step (texts c.args.names.now) (c.args.name.now ++ c.args.end.now) c.args.node.now.items (c.halves.low + (c.halves.high - c.halves.low) / 2) c.at.result c.requires.ordered lt (c.at.ensures c.at.result) here in
    record {
      within = omega (arith, m.1);
      inside = c.halves.invariant.inside;
      below = λ k d l. past k d (omega arith);
      over = c.halves.invariant.over;
    }
