use Rattle.std.proofs.Common.{◌≡◌, take, map}
use Rattle.slots.specs.Windowed.{numbered_among}
use Rattle.slots.proofs.numbered.numbered.Given as goal

-- the numbers so far
abbrev pub invariant-loop-flight : goal.invariant-loop-flight
invariant-loop-flight l = l.numbered.items ≡ map (numbered_among l.all) (take l.flight-index l.flights)
