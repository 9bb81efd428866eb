use Rattle.std.proofs.Common.{◌≡◌, take, drop}
use Rattle.cam_types.specs.Weights.{weight_fault}
use Rattle.cam_types.specs.Lists.{prefixed, prefixed_after, first_answer}
use Rattle.cam_types.proofs.config_rules.weights_fault.Given as goal

-- what is left gives the answer
abbrev pub invariant-loop-i : goal.invariant-loop-i
invariant-loop-i l = first_answer weight_fault (prefixed_after (take l.i l.weights) (drop l.i l.weights)) ≡ first_answer weight_fault (prefixed l.weights)
