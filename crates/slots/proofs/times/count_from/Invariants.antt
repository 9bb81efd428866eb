use Rattle.std.proofs.Common.{◌≤◌, ◌-◌, length}
use Rattle.slots.specs.Bounds.{up_to}
use Rattle.slots.proofs.times.count_from.Given as goal

-- no more are counted than there are
abbrev pub invariant-loop-count : goal.invariant-loop-count
invariant-loop-count l = l.count ≤ up_to l.times l.last

abbrev pub decreases-loop-count : goal.decreases-loop-count
decreases-loop-count l = length l.times - l.count
