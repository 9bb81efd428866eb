use Rattle.std.proofs.Common.{◌≡◌, ◌≤◌, length, map, take, vec_capacity}
use Rattle.xpt_core.specs.Device.{new_device}
use Rattle.xpt_core.proofs.devices.open.open_queues.Given as goal

abbrev pub invariant-loop-device : goal.invariant-loop-device
invariant-loop-device l = record {
  so_far : l.queues.items ≡ map (new_device l.stays) (take l.device-index l.devices);
  room : length l.devices ≤ vec_capacity l.queues;
}
