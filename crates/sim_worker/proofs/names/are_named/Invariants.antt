use Rattle.std.proofs.Common.{◌≡◌, map, take}
use Rattle.xpt_lock.specs.Seats.{Held}
use Rattle.sim_worker.proofs.names.are_named.Given as goal

abbrev pub invariant-loop-i : goal.invariant-loop-i
invariant-loop-i l = map (λ (log : Held). log.name) (take l.i l.logs) ≡ take l.i l.names
