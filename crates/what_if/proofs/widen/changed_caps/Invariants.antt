use Rattle.std.proofs.Common.{◌≡◌}
use Rattle.round_net.specs.Nets.{table}
use Rattle.round_net.specs.Rows.{instance_of_rows}
use Rattle.what_if.specs.Caps.{changed_cap}
use Rattle.what_if.proofs.widen.changed_caps.Given as goal

-- the rows so far
abbrev pub invariant-loop-row : goal.invariant-loop-row
invariant-loop-row l = let n = instance_of_rows l.net in l.caps.items ≡ table l.row n.rounds (changed_cap n l.net.config l.changes)
