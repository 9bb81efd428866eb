use Rattle.std.proofs.Common.{◌≡◌, take, None}
use Rattle.sweep.specs.Choices.{choices_fault}
use Rattle.sweep.proofs.choices.first_refused.Given as goal

abbrev pub invariant-loop-at : goal.invariant-loop-at
invariant-loop-at l = choices_fault l.config (take l.at l.choices) ≡ None
