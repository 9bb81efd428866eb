use Rattle.std.proofs.Common.{slice_index}
use Rattle.round_net.specs.Rows.{instance_of_rows}
use Rattle.orders.proofs.FirstLemmas.{AreFound}
use Rattle.orders.proofs.first_waiting.first_waiting.Given as goal

abbrev pub invariant-loop-stay : goal.invariant-loop-stay
invariant-loop-stay l = AreFound (instance_of_rows l.net) (slice_index l.schedule) l.device l.own l.stay-index l.firsts.items l.next.items
