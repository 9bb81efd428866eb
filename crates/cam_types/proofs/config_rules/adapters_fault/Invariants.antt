use Rattle.std.proofs.Common.{◌≡◌, take, drop}
use Rattle.cam_types.specs.Topology.{adapter_fault}
use Rattle.cam_types.specs.Lists.{prefixed, prefixed_after, first_answer}
use Rattle.cam_types.proofs.config_rules.adapters_fault.Given as goal

-- what is left gives the answer
abbrev pub invariant-loop-i : goal.invariant-loop-i
invariant-loop-i l = first_answer (adapter_fault l.fn.links) (prefixed_after (take l.i l.adapters) (drop l.i l.adapters)) ≡ first_answer (adapter_fault l.fn.links) (prefixed l.adapters)
