use Rattle.std.proofs.Common.{◌≡◌}
use Rattle.round_net.specs.Nets.{cells}
use Rattle.round_net.specs.Pace.{pace_cap}
use Rattle.round_net.specs.Rows.{instance_of_rows, live_of_rows}
use Rattle.round_net.proofs.pace.pace_caps.Given as goal

-- the rounds of rows so far
abbrev pub invariant-loop-at : goal.invariant-loop-at
invariant-loop-at l = l.caps.items ≡ cells l.rounds (pace_cap (instance_of_rows l.net) (live_of_rows l.net)) l.at
