use Rattle.std.proofs.Common.{◌≡◌, take}
use Rattle.round_net.specs.Rows.{instance_of_rows}
use Rattle.what_if.specs.Caps.{changes_of}
use Rattle.what_if.proofs.widen.changes_of.Given as goal

-- of the changes so far
abbrev pub invariant-loop-change : goal.invariant-loop-change
invariant-loop-change l = l.own.items ≡ changes_of (instance_of_rows l.net) (take l.change-index l.changes) l.row
