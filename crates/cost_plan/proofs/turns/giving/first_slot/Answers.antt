use Rattle.std.proofs.Common.{ltb, arith, rules}
use Rattle.std.proofs.lemmas.List.Sorted.{IsNonDecreasingBy-from_default, IsPartitionedBy-ltb, IsPartitionPoint-from_clause}
use Rattle.std.proofs.lemmas.Bool.Decides.{nat_tests}
use Rattle.cost_plan.proofs.turns.giving.first_slot.Goals as goal

pub returns-clause-before : goal.returns-clause-before
returns-clause-before c =
    let xs = c.args.rounds.now in
    let point = IsPartitionPoint-from_clause (λ y. ltb y c.args.arrival) xs _ c.partition_point.ensures.partitioned (IsPartitionedBy-ltb (λ y. y) xs c.args.arrival (IsNonDecreasingBy-from_default (λ y. y) xs 0 c.requires)) (λ a r q k. search rules) in
    λ slot less. let found = point.0 slot 0 (omega arith) less in grind (arith, nat_tests)

pub returns-clause-rest : goal.returns-clause-rest
returns-clause-rest c =
    let xs = c.args.rounds.now in
    let point = IsPartitionPoint-from_clause (λ y. ltb y c.args.arrival) xs _ c.partition_point.ensures.partitioned (IsPartitionedBy-ltb (λ y. y) xs c.args.arrival (IsNonDecreasingBy-from_default (λ y. y) xs 0 c.requires)) (λ a r q k. search rules) in
    λ slot past less. let found = point.1 slot 0 past less in grind (arith, nat_tests)
