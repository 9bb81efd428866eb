use Rattle.std.proofs.Common.{arith}
use Rattle.price_check.proofs.FaultLemmas.{admissible_where_faultless}
use Rattle.price_check.proofs.faults.first_fault.Goals as goal

pub returns-clause-found : goal.returns-clause-found
returns-clause-found c = admissible_where_faultless _ _ (λ t lt. c.loop-stay.invariant.before t (omega arith))
