use Rattle.std.proofs.Common.{◌≡◌, ◌≤◌, ◌+◌, take}
use Rattle.event_rules.specs.Counts.{round}
use Rattle.conversions.specs.Arrivals.{arrivals}
use Rattle.conversions.proofs.arrival.arrivals_of.Given as goal

-- the submits so far, and the round
abbrev pub invariant-loop-event : goal.invariant-loop-event
invariant-loop-event l = record {
  found : l.found.items ≡ arrivals (take l.event-index l.events);
  round : l.round ≡ round (take l.event-index l.events);
  small : l.round ≤ l.event-index + 1;
}
