use Rattle.std.proofs.Common.{not, ◌==◌, ◌&&◌, nat_lt}
use Rattle.event_rules.specs.Counts.{round}
use Rattle.round_net.specs.Caps.{resource_count, resource_freezes}
use Rattle.round_net.specs.Marks.{Marks}
use Rattle.round_net.proofs.marks.mark_frozen.Given as goal

-- the rows so far
abbrev pub invariant-loop-row : goal.invariant-loop-row
invariant-loop-row l =
    Marks (resource_count l.replay.config) l.rounds l.fn.marks l.marks (round l.replay.events) (λ x. nat_lt x l.row && not (resource_freezes l.replay.config l.replay.events x == 0))
