use Rattle.std.proofs.Common.{◌≡◌, take, drop}
use Rattle.cam_types.specs.Topology.{lane_fault}
use Rattle.cam_types.specs.Lists.{prefixed, prefixed_after, first_answer}
use Rattle.cam_types.proofs.config_rules.lanes_fault.Given as goal

-- what is left gives the answer
abbrev pub invariant-loop-i : goal.invariant-loop-i
invariant-loop-i l = first_answer (lane_fault l.fn.adapters) (prefixed_after (take l.i l.lanes) (drop l.i l.lanes)) ≡ first_answer (lane_fault l.fn.adapters) (prefixed l.lanes)
