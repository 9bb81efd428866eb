use Rattle.std.proofs.Common.{ap, ◌∙◌}
use Rattle.std.proofs.lemmas.List.Sorted.{IsNonDecreasingBy-from_sort}
use Rattle.wait_causes.specs.Words.{MAX_NET_ROUNDS}
use Rattle.wait_causes.specs.Parts.{rank_of}
use Rattle.wait_causes.proofs.PartLemmas.{rank_moved}
use Rattle.wait_causes.proofs.part.waits_of.Goals as goal

pub returns-clause-ascending : goal.returns-clause-ascending
returns-clause-ascending c = IsNonDecreasingBy-from_sort (λ x. x) _ c.sort_unstable.ensures.sorted

pub returns-clause-ranks : goal.returns-clause-ranks
returns-clause-ranks c = λ thousandths. rank_moved MAX_NET_ROUNDS thousandths _ _ c.sort_unstable.ensures.permutation ∙ ap (rank_of thousandths) c.in_ok-waits.ensures
