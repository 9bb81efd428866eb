use Rattle.std.proofs.Common.{◌≡◌, ◌≤◌, length, take}
use Rattle.sim_worker.specs.Logs.{acts}
use Rattle.sim_worker.proofs.endings.call_count.Given as goal

abbrev pub invariant-loop-row : goal.invariant-loop-row
invariant-loop-row l = record {
  counted : l.count ≡ length (acts (take l.row-index l.rows));
  few : l.count ≤ l.row-index;
}
