use Rattle.std.proofs.Common.{rules, ◌≡◌, ◌≤◌, length, min, max, arith, length-append, ap, ◌∷◌, []}
use Rattle.swh_memory_disk.proofs.PastSteps.{nearest, chosen, near_more}
use Rattle.swh_memory_disk.proofs.past.Past.image_near.Goals as goal

pub loop-k-preserved : goal.loop-k-preserved
loop-k-preserved c =
    let past = c.args.self.now in
    record {
      size = omega (arith, c.loop-k.invariant.size, ap length c.in_ok-push.ensures.items, length-append c.loop-k.image.items (c.byte_near.result ∷ []));
      each = near_more past.base.items past.ranges.items c.args.choice.now c.loop-k.image.items c.byte_near.result c.loop-k.k _ c.loop-k.invariant.size c.loop-k.invariant.each c.byte_near.ensures c.in_ok-push.ensures.items;
    }

pub returns-clause-nearest : goal.returns-clause-nearest
returns-clause-nearest c file is =
    let past = c.args.self.now in
    let base : c.len.result ≡ length past.base.items = search rules in
    let within : length past.base.items ≤ past.longest = search rules in
    let size : length c.loop-k.image.items ≡ max (length past.base.items) (min past.longest (length c.args.choice.now)) = omega (arith, c.loop-k.invariant.size, c.max-size.ensures, c.min.ensures, base, c.loop-k-test.false, c.loop-k.auto.k-end) in
    nearest file past c.args.choice.now c.loop-k.image.items is within size (λ i h. c.loop-k.invariant.each i (omega (arith, h, c.loop-k.invariant.size)))

pub returns-clause-chosen : goal.returns-clause-chosen
returns-clause-chosen c file is fits =
    let past = c.args.self.now in
    let base : c.len.result ≡ length past.base.items = search rules in
    let size : length c.loop-k.image.items ≡ max (length past.base.items) (min past.longest (length c.args.choice.now)) = omega (arith, c.loop-k.invariant.size, c.max-size.ensures, c.min.ensures, base, c.loop-k-test.false, c.loop-k.auto.k-end) in
    chosen file past c.args.choice.now c.loop-k.image.items is fits size (λ i h. c.loop-k.invariant.each i (omega (arith, h, c.loop-k.invariant.size)))
