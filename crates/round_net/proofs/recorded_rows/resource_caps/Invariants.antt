use Rattle.std.proofs.Common.{◌≡◌}
use Rattle.round_net.specs.Nets.{cells}
use Rattle.round_net.specs.RecordedNets.{recorded_cap}
use Rattle.round_net.proofs.recorded_rows.resource_caps.Given as goal

-- the rounds of rows so far
abbrev pub invariant-loop-at : goal.invariant-loop-at
invariant-loop-at l = l.caps.items ≡ cells l.rounds (recorded_cap l.recording) l.at
