use Rattle.std.proofs.Common.{◌≡◌, take}
use Rattle.xpt_lock.specs.Receipts.{all_receipts, naming}
use Rattle.sim_worker.proofs.judging.mismatch.Given as goal

abbrev pub invariant-loop-log : goal.invariant-loop-log
invariant-loop-log l = naming l.place (all_receipts (take l.log-index l.logs)) ≡ 0
