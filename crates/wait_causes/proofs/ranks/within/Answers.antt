use Rattle.std.proofs.Common.{nat_le, leb, rules}
use Rattle.std.proofs.lemmas.List.Sorted.{IsPartitionPoint-from_clause, IsPartitionedBy-leb}
use Rattle.wait_causes.proofs.PartLemmas.{point_counts}
use Rattle.wait_causes.proofs.ranks.within.Goals as goal

pub returns-clause-same : goal.returns-clause-same
returns-clause-same c =
    let parted = IsPartitionedBy-leb (λ x. x) _ c.args.most c.requires in
    let point = IsPartitionPoint-from_clause (λ x. leb x c.args.most) _ _ c.partition_point.ensures.partitioned parted (λ a r q k. search rules) in
    point_counts (λ x. nat_le x c.args.most) _ _ c.partition_point.ensures.bound point
