use Rattle.std.proofs.Common.{◌≡◌, replicate, false}
use Rattle.sim_worker.proofs.sim.first_drivers.Given as goal

abbrev pub invariant-loop : goal.invariant-loop
invariant-loop l = l.drivers.items ≡ replicate l.counter (record { done = 0; refused = false })
