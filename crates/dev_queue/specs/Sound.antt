-- The parts that hold a device's queue.
use Rattle.std.specs.Prelude.{◌≡◌, ℕ, ◌+◌, ◌-◌, ◌^◌, ◌<◌, ◌≤◌, List, length}
use Rattle.camq_heap.specs.Queue.{Queue}
use Rattle.dev_queue.specs.Device.{Waiting}
use Rattle.dev_queue.specs.Order.{AllBefore}

-- the entries of both kinds fit; generations count what entered the queue; each CCB that waits, is in flight or freezes the device was entered
pub record IsSound (queue : Queue ℕ) (later : List Waiting) (capacity memory in_flight callers errors entered : ℕ) : Type 0 where
  pub room : length queue.entries + length later ≤ capacity
  pub queue_for : queue.capacity ≡ capacity
  pub memory_for : capacity ≤ memory
  pub before : AllBefore (entered - length later) queue.entries
  pub counted : length queue.entries + length later + in_flight + errors ≤ entered
  pub few_freezes : callers ≤ 65535
  pub few_entered : entered < 2 ^ 32
