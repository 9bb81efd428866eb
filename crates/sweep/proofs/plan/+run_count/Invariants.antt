use Rattle.std.proofs.Common.{length}
use Rattle.sweep.proofs.plan.+run_count.Given as goal

abbrev pub decreases-run_count : goal.decreases-run_count
decreases-run_count l = length l.choices.now
