use Rattle.xpt_lock.proofs.SeatLemmas.{gained}
use Rattle.xpt_lock.proofs.shared.SharedXpt.take.Goals as goal

pub returns-clause-call : goal.returns-clause-call
returns-clause-call g c = gained _ _ _ _ _ c.in_ok-receipt.receipt _ c.seat.view_is c.reserve.ensures.items c.push_reserved.ensures.items c.in_ok-receipt.ensures.place.1
