use Rattle.std.proofs.Common.{◌≡◌, ℕ, List, length, take, drop}
use Rattle.cam_types.specs.Topology.{openings_fault}
use Rattle.cam_types.specs.Lists.{prefixed, prefixed_after, first_answer}
use Rattle.cam_types.proofs.config_rules.openings_faults.Given as goal

-- what is left gives the answer
abbrev pub invariant-loop-i : goal.invariant-loop-i
invariant-loop-i l =
    first_answer (λ (m : List ℕ × ℕ). openings_fault l.fn.most (length m.0) m.1) (prefixed_after (take l.i l.items) (drop l.i l.items))
    ≡ first_answer (λ (m : List ℕ × ℕ). openings_fault l.fn.most (length m.0) m.1) (prefixed l.items)
