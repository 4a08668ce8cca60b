use Rattle.std.proofs.Common.{◌≡◌, ◌+◌, ◌-◌, length, false, ◌∙◌, arith}
use Rattle.std.proofs.lemmas.List.{get_or_default}
use Rattle.swh_folders.specs.Live.{is_live}
use Rattle.swh_folders.proofs.Copies.{copied-none}
use Rattle.swh_folders.proofs.compacting.move_all.Goals as goal

pub loop-wanted-init : goal.loop-wanted-init
loop-wanted-init c = record {
  next = rw c.new-moved.ensures.items (omega arith);
  room = rw c.new-fresh.ensures.items (omega arith);
  whole = rw c.new-fresh.ensures.items (λ k d lt. absurd (omega arith));
  copied = λ names x arena closed parts. rw (c.new-fresh.ensures.items, c.new-moved.ensures.items) (copied-none names c.args.nodes.now c.args.base c.args.live.now x arena (omega arith));
}

pub loop-wanted-preserved : goal.loop-wanted-preserved
loop-wanted-preserved c =
    let inv = c.loop-wanted.invariant in
    let next = inv.next in
    let room = inv.room in
    let grown = c.in_ok-move_one.ensures.next in
    let wide = c.in_ok-move_one.ensures.room in
    record {
      next = omega arith;
      room = omega arith;
      whole = c.in_ok-move_one.ensures.whole inv.whole;
      copied = λ names x arena closed parts.
          let place : c.args.base + length c.loop-wanted.moved.items - c.args.base ≡ c.loop-wanted.wanted-index = omega arith in
          let is : is_live c.args.base c.args.live.now (c.args.base + length c.loop-wanted.moved.items) ≡ _ = rw place (get_or_default c.args.live.now c.loop-wanted.wanted-index false _ (omega arith)) in
          c.in_ok-move_one.ensures.copied names c.args.live.now x arena is closed (λ yes. parts (c.args.base + length c.loop-wanted.moved.items) (omega arith) (omega arith) (is ∙ yes)) (inv.copied names x arena closed parts);
    }
