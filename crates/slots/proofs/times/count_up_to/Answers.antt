use Rattle.std.proofs.Common.{arith, rules, tests, nat_le, ◌≤◌}
use Rattle.std.proofs.lemmas.List.Sorted.{IsPartitionPoint-from_clause, IsPartitionedBy-leb}
use Rattle.std.proofs.lemmas.Bool.{leb-true, leb-false}
use Rattle.slots.specs.Bounds.{up_to}
use Rattle.slots.proofs.BoundLemmas.{up_to-ge, up_to-le}
use Rattle.slots.proofs.times.count_up_to.Goals as goal

pub returns : goal.returns
returns c =
    let xs = c.args.times.now in
    let t = c.args.last in
    let n = c.partition_point.result in
    let at = IsPartitionPoint-from_clause (λ x. nat_le x t) xs n c.partition_point.ensures.partitioned (IsPartitionedBy-leb (λ x. x) xs t c.requires) (λ a r q k. search (rules, tests)) in
    let bound = c.partition_point.ensures.bound in
    let low : n ≤ up_to xs t = up_to-ge xs n t bound (λ k lt. leb-true _ t (at.0 k 0 (omega arith) lt)) in
    let high : up_to xs t ≤ n = up_to-le xs n t (λ k le lt. leb-false _ t (at.1 k 0 le lt)) in
    omega arith
