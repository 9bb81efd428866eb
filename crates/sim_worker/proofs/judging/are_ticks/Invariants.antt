use Rattle.std.proofs.Common.{◌≡◌, true, take}
use Rattle.std.specs.List.{list_all}
use Rattle.sim_worker.specs.Logs.{is_opening}
use Rattle.sim_worker.proofs.judging.are_ticks.Given as goal

abbrev pub invariant-loop-receipt : goal.invariant-loop-receipt
invariant-loop-receipt l = list_all is_opening (take l.receipt-index l.receipts) ≡ true
