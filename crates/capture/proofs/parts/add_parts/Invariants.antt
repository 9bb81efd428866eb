use Rattle.std.proofs.Common.{◌≡◌, ◌++◌}
use Rattle.capture.specs.Parts.{parts_of_kind}
use Rattle.capture.proofs.parts.add_parts.Given as goal

-- the parts so far
abbrev pub invariant-loop-number : goal.invariant-loop-number
invariant-loop-number l = l.parts.items ≡ l.fn.parts.items ++ parts_of_kind l.kind l.number
