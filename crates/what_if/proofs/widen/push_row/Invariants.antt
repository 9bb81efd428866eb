use Rattle.std.proofs.Common.{◌≡◌, ◌+◌, ◌*◌}
use Rattle.round_net.specs.Nets.{cells}
use Rattle.round_net.specs.Rows.{instance_of_rows}
use Rattle.what_if.specs.Caps.{changed_cap}
use Rattle.what_if.proofs.widen.push_row.Given as goal

-- the rounds so far
abbrev pub invariant-loop-before : goal.invariant-loop-before
invariant-loop-before l = let n = instance_of_rows l.net in l.caps.items ≡ cells n.rounds (changed_cap n l.net.config l.changes) (l.row * n.rounds + l.before)
