use Rattle.std.proofs.Common.{ap, ◌∙◌, arith, length, List, ℕ}
use Rattle.std.proofs.lemmas.List.Sorted.{length_permutation, IsNonDecreasingBy-from_sort}
use Rattle.wait_causes.specs.Ranks.{rank_below}
use Rattle.wait_causes.proofs.PartLemmas.{rank_moved}
use Rattle.wait_causes.proofs.LatencyLemmas.{few_latencies}
use Rattle.wait_causes.proofs.latency.latencies_of.Goals as goal

pub returns-clause-few : goal.returns-clause-few
returns-clause-few c =
    let numbers : List ℕ = c.in_ok-numbers.numbers.items in
    omega (arith, length_permutation numbers _ c.sort_unstable.ensures.permutation, ap (λ (xs : List ℕ). length xs) c.in_ok-numbers.ensures, few_latencies c.args.stays.now, c.requires.few)

pub returns-clause-ascending : goal.returns-clause-ascending
returns-clause-ascending c = IsNonDecreasingBy-from_sort (λ x. x) _ c.sort_unstable.ensures.sorted

pub returns-clause-ranks : goal.returns-clause-ranks
returns-clause-ranks c = λ most thousandths. rank_moved most thousandths _ _ c.sort_unstable.ensures.permutation ∙ ap (rank_below most thousandths) c.in_ok-numbers.ensures
