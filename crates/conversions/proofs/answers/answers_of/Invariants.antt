use Rattle.std.proofs.Common.{◌≡◌, map}
use Rattle.std.specs.List.{range_with_len}
use Rattle.conversions.specs.Answers.{lane_answers}
use Rattle.conversions.proofs.answers.answers_of.Given as goal

-- the answers of the lanes so far
abbrev pub invariant-loop-lane : goal.invariant-loop-lane
invariant-loop-lane l = map (λ x. x.items) l.answers.items ≡ map (lane_answers l.events) (range_with_len 0 l.lane)
