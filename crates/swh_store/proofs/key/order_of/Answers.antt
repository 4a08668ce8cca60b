use Rattle.std.proofs.Common.{sym, arith}
use Rattle.swh_store.proofs.KeyLemmas.{less_head, greater_head}
use Rattle.swh_store.proofs.key.order_of.Goals as goal

pub returns-then-head-other : goal.returns-then-head-other
returns-then-head-other c =
    let left = c.head_of-head.ensures.value in
    let right = c.head_of-other.ensures.value in
    let less = c.if-head-other.true in
    sym (less_head c.args.a.now c.args.b.now c.head_of-head.ensures.long c.head_of-other.ensures.long c.head_of-head.ensures.bytes c.head_of-other.ensures.bytes (omega (arith, left, right, less)))

pub returns-then-head-other-2 : goal.returns-then-head-other-2
returns-then-head-other-2 c =
    let left = c.head_of-head.ensures.value in
    let right = c.head_of-other.ensures.value in
    let more = c.if-head-other-2.true in
    sym (greater_head c.args.a.now c.args.b.now c.head_of-head.ensures.long c.head_of-other.ensures.long c.head_of-head.ensures.bytes c.head_of-other.ensures.bytes (omega (arith, left, right, more)))
