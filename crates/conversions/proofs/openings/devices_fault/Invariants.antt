use Rattle.std.proofs.Common.{◌≡◌, take, drop}
use Rattle.cam_types.specs.Lists.{prefixed, prefixed_after, first_answer}
use Rattle.conversions.specs.RecordingScript.{device_fault}
use Rattle.conversions.proofs.openings.devices_fault.Given as goal

-- what is left gives the answer
abbrev pub invariant-loop-number : goal.invariant-loop-number
invariant-loop-number l = first_answer device_fault (prefixed_after (take l.number l.devices) (drop l.number l.devices)) ≡ first_answer device_fault (prefixed l.devices)
