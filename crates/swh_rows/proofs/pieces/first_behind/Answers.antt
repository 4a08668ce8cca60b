use Rattle.std.proofs.Common.{ℕ, leb, leb-true, arith, rules}
use Rattle.std.proofs.lemmas.Bool.{leb-false}
use Rattle.std.proofs.lemmas.List.Sorted.{IsPartitionPoint-from_clause, IsPartitionedBy-leb}
use Rattle.swh_rows.proofs.pieces.first_behind.Goals as goal

pub returns-clause-before : goal.returns-clause-before
returns-clause-before c =
    let parted = IsPartitionedBy-leb (λ (end : ℕ). end) _ c.args.place c.requires in
    let point = IsPartitionPoint-from_clause (λ (end : ℕ). leb end c.args.place) _ _ c.partition_point.ensures.partitioned parted (λ a r q k. search rules) in
    λ k h. leb-true _ _ (point.0 k 0 (omega arith) h)

pub returns-clause-behind : goal.returns-clause-behind
returns-clause-behind c =
    let parted = IsPartitionedBy-leb (λ (end : ℕ). end) _ c.args.place c.requires in
    let point = IsPartitionPoint-from_clause (λ (end : ℕ). leb end c.args.place) _ _ c.partition_point.ensures.partitioned parted (λ a r q k. search rules) in
    λ k order inside. leb-false _ _ (point.1 k 0 order inside)
