use Rattle.std.proofs.Common.{◌≡◌, take, map}
use Rattle.slots.specs.Flights.{Flight, span_held}
use Rattle.slots.specs.Spans.{covering}
use Rattle.slots.proofs.flying.flying_at_starts.Given as goal

-- the numbers so far
abbrev pub invariant-loop-flight : goal.invariant-loop-flight
invariant-loop-flight l = l.flying.items ≡ map (λ (f : Flight). covering (map (span_held l.usual) l.flights) f.start) (take l.flight-index l.flights)
