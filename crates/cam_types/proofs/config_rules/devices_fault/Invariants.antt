use Rattle.std.proofs.Common.{◌≡◌, take, drop}
use Rattle.cam_types.specs.Topology.{device_fault}
use Rattle.cam_types.specs.Lists.{prefixed, prefixed_after, first_answer}
use Rattle.cam_types.proofs.config_rules.devices_fault.Given as goal

-- what is left gives the answer
abbrev pub invariant-loop-i : goal.invariant-loop-i
invariant-loop-i l = first_answer (device_fault l.fn.adapters) (prefixed_after (take l.i l.devices) (drop l.i l.devices)) ≡ first_answer (device_fault l.fn.adapters) (prefixed l.devices)
