use Rattle.std.proofs.Common.{◌≡◌, take}
use Rattle.xpt_lock.specs.Receipts.{naming}
use Rattle.sim_worker.proofs.judging.receipt_at.Given as goal

abbrev pub invariant-loop-receipt : goal.invariant-loop-receipt
invariant-loop-receipt l = naming l.place (take l.receipt-index l.receipts) ≡ 0
