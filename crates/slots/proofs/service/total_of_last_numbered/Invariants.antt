use Rattle.std.proofs.Common.{◌≡◌, ◌≤◌, length, take, sum}
use Rattle.slots.specs.Windowed.{last_times_of}
use Rattle.slots.proofs.service.total_of_last_numbered.Given as goal

abbrev pub invariant-loop-each : goal.invariant-loop-each
invariant-loop-each l = record {
  sum : l.total.sum ≡ sum (last_times_of l.most (take l.each-index l.flights));
  count : l.total.count ≡ length (last_times_of l.most (take l.each-index l.flights));
  few : l.total.count ≤ l.each-index;
}
