use Rattle.std.proofs.Common.{◌≡◌, take, drop}
use Rattle.cam_types.specs.Lists.{prefixed, prefixed_after, first_answer}
use Rattle.conversions.specs.RecordingScript.{adapter_fault}
use Rattle.conversions.proofs.openings.adapters_fault.Given as goal

-- what is left gives the answer
abbrev pub invariant-loop-number : goal.invariant-loop-number
invariant-loop-number l = first_answer adapter_fault (prefixed_after (take l.number l.adapters) (drop l.number l.adapters)) ≡ first_answer adapter_fault (prefixed l.adapters)
