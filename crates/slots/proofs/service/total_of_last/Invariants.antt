use Rattle.std.proofs.Common.{◌≡◌, ◌≤◌, ℕ, length, take, map, filter, sum}
use Rattle.slots.specs.Flights.{Flight, times_of_service, takes_last_by}
use Rattle.slots.proofs.service.total_of_last.Given as goal

abbrev pub invariant-loop-place : goal.invariant-loop-place
invariant-loop-place l = record {
  sum : (number : Flight → ℕ) → l.flying ≡ map number l.flights → l.total.sum ≡ sum (times_of_service (filter (takes_last_by l.usual number l.most) (take l.place l.flights)));
  count : (number : Flight → ℕ) → l.flying ≡ map number l.flights → l.total.count ≡ length (times_of_service (filter (takes_last_by l.usual number l.most) (take l.place l.flights)));
  few : l.total.count ≤ l.place;
}
