use Rattle.std.proofs.Common.{◌≡◌, drop, max}
use Rattle.slots.specs.Flights.{greatest}
use Rattle.slots.proofs.flying.greatest.Given as goal

-- the greatest so far, or of what is left
abbrev pub invariant-loop-number : goal.invariant-loop-number
invariant-loop-number l = max l.most (greatest (drop l.number-index l.numbers)) ≡ greatest l.numbers
