use Rattle.std.proofs.Common.{◌≡◌, true, take}
use Rattle.std.specs.List.{list_all}
use Rattle.sim_worker.specs.Runs.{is_over}
use Rattle.sim_worker.proofs.endings.are_over.Given as goal

abbrev pub invariant-loop-row : goal.invariant-loop-row
invariant-loop-row l = list_all (is_over l.now) (take l.row-index l.rows) ≡ true
