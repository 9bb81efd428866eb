use Rattle.round_net.specs.Rows.{instance_of_rows}
use Rattle.price_check.specs.Rests.{IsNextWeight}
use Rattle.price_check.proofs.payments.next_weight.Given as goal

abbrev pub invariant-loop-stay : goal.invariant-loop-stay
invariant-loop-stay l = IsNextWeight (instance_of_rows l.net) l.above l.stay l.next
