use Rattle.std.proofs.Common.{◌≡◌, ◌++◌, map, take, drop}
use Rattle.xpt_core.specs.DeviceUpdates.{in_next_round}
use Rattle.xpt_core.proofs.devices.update.open_round.Given as goal

abbrev pub invariant-loop-queue : goal.invariant-loop-queue
invariant-loop-queue l =
    l.queue-items ≡ map in_next_round (take l.queue-index l.initial.queue-items) ++ drop l.queue-index l.initial.queue-items
