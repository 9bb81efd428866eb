use Rattle.std.proofs.Common.{◌≡◌, None, find}
use Rattle.std.specs.List.{range_with_len}
use Rattle.capture.specs.Faults.{is_crowded}
use Rattle.capture.proofs.round_starts.check_crowds.Given as goal

-- no round so far has too many
abbrev pub invariant-loop-before : goal.invariant-loop-before
invariant-loop-before l = find (is_crowded l.requests) (range_with_len 1 l.before) ≡ None
