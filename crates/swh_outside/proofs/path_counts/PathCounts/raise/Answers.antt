use Rattle.std.proofs.Common.{rules, ◌≡◌, ◌≤◌, length, List, sym, ◌∙◌, ap, subst, arith}
use Rattle.std.specs.List.{position_or_len}
use Rattle.swh_outside.specs.Faults.{one_more}
use Rattle.swh_outside.specs.Counts.{is_of}
use Rattle.swh_outside.specs.declared.path_counts.PathCount.{PathCount}
use Rattle.swh_outside.proofs.CountLaws.{count_in-absent, count_in-later, count_in-counted}
use Rattle.swh_outside.proofs.path_counts.PathCounts.raise.Goals as goal

pub returns-else-i-len-clause-rose : goal.returns-else-i-len-clause-rose
returns-else-i-len-clause-rose c =
    let p = is_of c.args.path.now in
    let items = c.args.self.now.counts.items in
    let e = c.deref.ensures.value in
    let first = subst (λ (l : List PathCount). c.find_count-i.result ≡ position_or_len p l) e c.find_count-i.ensures.first in
    let within = subst (λ (l : List PathCount). c.find_count-i.result ≤ length l) e c.find_count-i.ensures.within in
    let size = ap length e in
    let absent : position_or_len p items ≡ length items = omega (arith, first, within, size, c.if-i-len.false, c.len.ensures, c.deref.ensures.len) in
    let was = count_in-absent items c.args.self.now.others c.args.path.now absent in
    let is = count_in-absent items c.saturating_add-self.result c.args.path.now absent in
    let rose : c.saturating_add-self.result ≡ one_more c.args.self.now.others = search rules in
    is ∙ rose ∙ ap one_more (sym was)

pub returns-else-i-len-clause-later : goal.returns-else-i-len-clause-later
returns-else-i-len-clause-later c p =
    let le : c.args.self.now.others ≤ c.saturating_add-self.result = search rules in
    count_in-later c.args.self.now.counts.items c.args.self.now.others c.saturating_add-self.result p le

pub returns-else-i-len-clause-other_places : goal.returns-else-i-len-clause-other_places
returns-else-i-len-clause-other_places c p apart counted = count_in-counted c.args.self.now.counts.items c.args.self.now.others c.saturating_add-self.result p counted
