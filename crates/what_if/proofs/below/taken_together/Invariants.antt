use Rattle.std.proofs.Common.{◌≡◌, take}
use Rattle.round_net.specs.Rows.{instance_of_rows}
use Rattle.what_if.specs.Below.{together}
use Rattle.what_if.proofs.below.taken_together.Given as goal

-- the rows so far
abbrev pub invariant-loop-part : goal.invariant-loop-part
invariant-loop-part l = l.sum ≡ together (λ part. (instance_of_rows l.net).cap part l.round) (take l.part-index l.below)
