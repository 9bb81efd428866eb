use Rattle.std.proofs.Common.{◌≡◌, take}
use Rattle.conversions.specs.Steps.{last_round, steps_for}
use Rattle.conversions.proofs.drivers.steps_for.Given as goal

-- the steps so far, and the round of the last
abbrev pub invariant-loop-arrival : goal.invariant-loop-arrival
invariant-loop-arrival l = record {
  steps : l.steps.items ≡ steps_for (take l.arrival-index l.own);
  now : l.now ≡ last_round (take l.arrival-index l.own);
}
