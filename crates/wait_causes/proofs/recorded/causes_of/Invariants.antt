use Rattle.std.proofs.Common.{◌≡◌, ◌+◌, ◌/◌, ◌%◌, map}
use Rattle.std.specs.List.{range_with_len}
use Rattle.round_net.specs.Rows.{instance_of_rows, live_of_rows}
use Rattle.wait_causes.specs.RecordedCauses.{recorded_cause}
use Rattle.wait_causes.proofs.recorded.causes_of.Given as goal

-- the places so far
abbrev pub invariant-loop-at : goal.invariant-loop-at
invariant-loop-at l = l.causes.items ≡ map (λ at. recorded_cause (instance_of_rows l.net) (live_of_rows l.net) (at / l.rounds) (at % l.rounds + 1)) (range_with_len 0 l.at)
