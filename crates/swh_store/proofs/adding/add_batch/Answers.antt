use Rattle.std.proofs.Common.{length, length-append, ap, arith}
use Rattle.swh_model.specs.Judge.{not_held}
use Rattle.swh_store.specs.Entries.{bodies_in}
use Rattle.swh_store.proofs.AddingLemmas.{length-not_held}
use Rattle.swh_store.proofs.adding.add_batch.Goals as goal

pub overflow_cast-result : goal.overflow_cast-result
overflow_cast-result c =
    let old = c.args.held.now.entries.items in
    let bound = length-not_held (bodies_in old) c.args.entries.now in
    let count = ap length c.in-Ok.ensures.ok in
    let both = length-append old (not_held (bodies_in old) c.args.entries.now) in
    let few = c.requires.few in
    let before = c.len-before.ensures in
    let len = c.len.ensures in
    let old_len = c.args.held.now.entries.ok.0 in
    let new_len = c.add_each.new.held.entries.ok.0 in
    omega (arith, bound, count, both, few, before, len, old_len, new_len)
