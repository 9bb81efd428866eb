use Rattle.std.proofs.Common.{◌≡◌, ◌≤◌, length, take, sum}
use Rattle.slots.specs.Flights.{times_of_service}
use Rattle.slots.proofs.service.total_of.Given as goal

abbrev pub invariant-loop-flight : goal.invariant-loop-flight
invariant-loop-flight l = record {
  sum : l.total.sum ≡ sum (times_of_service (take l.flight-index l.flights));
  count : l.total.count ≡ length (times_of_service (take l.flight-index l.flights));
  few : l.total.count ≤ l.flight-index;
}
