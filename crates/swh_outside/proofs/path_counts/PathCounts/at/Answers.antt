use Rattle.std.proofs.Common.{◌≡◌, ◌≤◌, length, List, sym, ap, subst, arith}
use Rattle.std.specs.List.{position_or_len}
use Rattle.swh_outside.specs.Counts.{is_of}
use Rattle.swh_outside.specs.declared.path_counts.PathCount.{PathCount}
use Rattle.swh_outside.proofs.CountLaws.{count_in-absent}
use Rattle.swh_outside.proofs.path_counts.PathCounts.at.Goals as goal

pub returns-else-i-len : goal.returns-else-i-len
returns-else-i-len c =
    let p = is_of c.args.path.now in
    let items = c.args.self.now.counts.items in
    let e = c.deref.ensures.value in
    let first = subst (λ (l : List PathCount). c.find_count-i.result ≡ position_or_len p l) e c.find_count-i.ensures.first in
    let within = subst (λ (l : List PathCount). c.find_count-i.result ≤ length l) e c.find_count-i.ensures.within in
    let size = ap length e in
    let absent : position_or_len p items ≡ length items = omega (arith, first, within, size, c.if-i-len.false, c.len.ensures, c.deref.ensures.len) in
    sym (count_in-absent items c.args.self.now.others c.args.path.now absent)
