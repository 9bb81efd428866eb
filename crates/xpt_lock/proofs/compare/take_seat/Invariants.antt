use Rattle.std.proofs.Common.{take}
use Rattle.xpt_lock.proofs.ConsistentLemmas.{IsTaken}
use Rattle.xpt_lock.proofs.compare.take_seat.Given as goal

abbrev pub invariant-loop-receipt : goal.invariant-loop-receipt
invariant-loop-receipt g l = IsTaken l.fn.due (take l.fn.place l.fn.seats) (take l.receipt-index l.receipts) l.named l.from
