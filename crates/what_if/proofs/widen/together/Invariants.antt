use Rattle.std.proofs.Common.{◌≡◌, take, slice_index}
use Rattle.round_net.specs.Rows.{cell}
use Rattle.what_if.specs.Below.{together}
use Rattle.what_if.proofs.widen.together.Given as goal

-- the rows so far
abbrev pub invariant-loop-part : goal.invariant-loop-part
invariant-loop-part l = l.sum ≡ together (λ part. slice_index l.caps (cell l.rounds part l.round)) (take l.part-index l.parts)
