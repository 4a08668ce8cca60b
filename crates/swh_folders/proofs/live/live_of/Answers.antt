use Rattle.std.proofs.Common.{rules, ◌≡◌, ◌⊎◌, ◌+◌, ◌-◌, ◌<◌, ◌≤◌, ◌++◌, ℕ, length, take, drop, true, false, sym, subst, ◌∙◌, arith}
use Rattle.std.proofs.lemmas.List.{get_or_default}
use Rattle.swh_entries.specs.Listed.{Listed}
use Rattle.swh_folders.specs.Live.{is_live, AreMarked, HasChild, IsClosed}
use Rattle.swh_folders.proofs.Lives.{parts-step, closed-step, written-back}
use Rattle.swh_folders.proofs.live.live_of.Goals as goal

pub down-preserved-then-index : goal.down-preserved-then-index
down-preserved-then-index c =
    let i = c.down.left - 1 in
    let base = c.args.base in
    let nodes = c.args.nodes.now in
    let v = c.index-nodes-left.result in
    let old = c.down.live.items in
    let new = c.mark_all.new.live in
    let value = c.as_mut_slice.ensures.value in
    let long : length c.mark_all.new.live ≡ length c.down.live.items = rw value at c.mark_all.ensures.as_long in
    let count : c.down.live.len ≡ length c.down.live.items = search rules in
    let back : take c.down.live.len (c.mark_all.new.live ++ drop (length c.mark_all.new.live) c.down.live.items) ≡ c.mark_all.new.live = written-back c.down.live.len c.down.live.items c.mark_all.new.live long count in
    let is = c.index-nodes-left.is in
    let own = rw (c.as_slice.ensures.value, c.in_ok-entries.ensures) at c.mark_all.ensures.marked in
    let more = rw value at c.mark_all.ensures.more in
    let only = rw (value, c.as_slice.ensures.value, c.in_ok-entries.ensures) at c.mark_all.ensures.only in
    let own' = subst (λ (u : Listed). AreMarked base new u.items (length u.items)) is own in
    let only' = subst (λ (u : Listed). (j : ℕ) → base ≤ j → is_live base new j ≡ true → (is_live base old j ≡ true) ⊎ HasChild u.items (length u.items) j) is only in
    let within : c.down.left - 1 < length c.args.nodes.now = let t = c.down.invariant.top in omega arith in
    let low : c.args.base ≤ c.down.left - 1 = omega arith in
    let inside : c.down.left - 1 - c.args.base < length c.down.live.items = let l = c.down.invariant.as_long in omega arith in
    let live : is_live base old i ≡ true = get_or_default old (i - base) false _ inside ∙ sym c.index.ensures ∙ c.if-index.true in
    let before : IsClosed base old nodes (i + 1) = let e : c.down.left - 1 + 1 ≡ c.down.left = omega arith in rw e c.down.invariant.closed in
    rw back (record {
      within = low;
      top = omega arith;
      as_long = let l = c.down.invariant.as_long in omega arith;
      root = more c.args.root c.requires.base c.down.invariant.root;
      closed = closed-step base i nodes v old new c.requires.lower within low own' more only' before;
      parts = λ names arena sound. parts-step names nodes base i c.args.root v old new arena sound low within live only' (c.down.invariant.parts names arena sound);
    })
