use Rattle.std.proofs.Common.{◌≡◌, ◌-◌, find, None}
use Rattle.std.specs.List.{range_with_len}
use Rattle.capture.specs.Usual.{reaches_half}
use Rattle.capture.proofs.median.middle.Given as goal

-- no number so far reaches the half
abbrev pub invariant-loop-number : goal.invariant-loop-number
invariant-loop-number l = find (reaches_half l.numbers) (range_with_len 1 (l.number - 1)) ≡ None
