use Rattle.std.proofs.Common.{◌≡◌, [], length, map, All, take}
use Rattle.sim_worker.proofs.script_port.ScriptPort.for_lanes.Given as goal

abbrev pub invariant-loop-lane : goal.invariant-loop-lane
invariant-loop-lane l = record {
  count : length l.ports.items ≡ l.lane;
  answers : map (λ p. p.answers) l.ports.items ≡ take l.lane l.script.answers;
  fresh : All (λ p. p.served ≡ []) l.ports.items;
}
