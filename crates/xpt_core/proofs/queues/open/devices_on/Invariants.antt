use Rattle.std.proofs.Common.{◌≡◌, ◌≤◌, length, vec_capacity, filter}
use Rattle.std.specs.List.{range_with_len}
use Rattle.cam_types.specs.Questions.{is_on}
use Rattle.xpt_core.proofs.queues.open.devices_on.Given as goal

abbrev pub invariant-loop-device : goal.invariant-loop-device
invariant-loop-device l = record {
  so_far : l.numbers.items ≡ filter (is_on l.config l.adapter) (range_with_len 0 l.device);
  room : length l.devices ≤ vec_capacity l.numbers;
  few : length l.numbers.items ≤ l.device;
}
