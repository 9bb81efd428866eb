use Rattle.std.proofs.Common.{◌≡◌, ◌++◌, drop}
use Rattle.conversions.specs.Answers.{served}
use Rattle.conversions.proofs.answers.served.Given as goal

-- with those of what the lane sends from here on they are all outcomes
abbrev pub invariant-loop-at : goal.invariant-loop-at
invariant-loop-at l = l.outcomes.items ++ served l.lane (drop l.at l.events) ≡ served l.lane l.events
