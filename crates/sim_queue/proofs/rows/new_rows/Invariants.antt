use Rattle.std.proofs.Common.{◌≡◌, ◌^◌, ◌<◌, ◌≤◌, length, map, take, vec_capacity, All}
use Rattle.sim_queue.specs.Adapter.{new_row}
use Rattle.sim_queue.proofs.rows.new_rows.Given as goal

abbrev pub invariant-loop-device : goal.invariant-loop-device
invariant-loop-device l = record {
  rows : l.rows.items ≡ map new_row (take l.device-index l.devices);
  numbers : All (λ r. r.device < 2 ^ 32) l.rows.items;
  room : length l.devices ≤ vec_capacity l.rows;
}
