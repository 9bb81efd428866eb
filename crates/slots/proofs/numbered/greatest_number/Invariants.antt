use Rattle.std.proofs.Common.{◌≡◌, drop, map, max}
use Rattle.slots.specs.Flights.{greatest}
use Rattle.slots.specs.Windowed.{number_of}
use Rattle.slots.proofs.numbered.greatest_number.Given as goal

-- the greatest so far, or of what is left
abbrev pub invariant-loop-flight : goal.invariant-loop-flight
invariant-loop-flight l = max l.most (greatest (map number_of (drop l.flight-index l.flights))) ≡ greatest (map number_of l.flights)
