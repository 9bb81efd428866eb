use Rattle.std.proofs.Common.{◌≡◌, []}
use Rattle.conversions.specs.Recorded.{caps_of, recorded_with}
use Rattle.conversions.proofs.resource_caps.add_caps.Given as goal

-- the caps of the rows so far
abbrev pub invariant-loop-row : goal.invariant-loop-row
invariant-loop-row l = l.recorder ≡ recorded_with l.history (caps_of l.history.config l.history.events l.row) []
