use Rattle.std.proofs.Common.{slice_index}
use Rattle.round_net.specs.Rows.{instance_of_rows}
use Rattle.orders.proofs.FillLemmas.{IsFilling}
use Rattle.orders.proofs.pricing.fill.Given as goal

abbrev pub invariant-loop-round : goal.invariant-loop-round
invariant-loop-round l = IsFilling (instance_of_rows l.net) (slice_index l.schedule) l.device l.firsts l.fn.worth.items l.worth.items l.round

abbrev pub decreases-loop-round : goal.decreases-loop-round
decreases-loop-round l = l.round
