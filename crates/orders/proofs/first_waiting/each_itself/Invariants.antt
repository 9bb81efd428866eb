use Rattle.std.proofs.Common.{◌≡◌, ℕ, ◌<◌, length, slice_index}
use Rattle.orders.proofs.first_waiting.each_itself.Given as goal

abbrev pub invariant-loop-place : goal.invariant-loop-place
invariant-loop-place l = record {
  long : length l.next.items ≡ l.place;
  each : (r : ℕ) → r < l.place → slice_index l.next.items r ≡ r;
}
