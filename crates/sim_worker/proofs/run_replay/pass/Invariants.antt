use Rattle.std.proofs.Common.{◌≡◌, length, take, true}
use Rattle.sim_worker.specs.Runs.{are_ticks_in_time}
use Rattle.sim_worker.specs.Walks.{AreOn, IsOf}
use Rattle.sim_worker.proofs.run_replay.pass.Given as goal

abbrev pub invariant-loop-place : goal.invariant-loop-place
invariant-loop-place l = record {
  same : length l.walks ≡ length l.fn.walks;
  of : IsOf l.script l.xpt;
  events : l.xpt.events ≡ take l.place l.events;
  on : AreOn l.script l.logs (take l.place l.events) l.walks;
  ticks : are_ticks_in_time l.script.config l.script.limits (take l.place l.events) ≡ true;
}
