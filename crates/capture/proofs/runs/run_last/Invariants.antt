use Rattle.std.proofs.Common.{◌≡◌, ◌+◌, ◌==◌, not, find, None, slice_index}
use Rattle.std.specs.List.{range_with_len}
use Rattle.capture.proofs.runs.run_last.Given as goal

-- so far no round has another number than the first
abbrev pub invariant-loop-more : goal.invariant-loop-more
invariant-loop-more l = find (λ r. not (slice_index l.row r == slice_index l.row l.first)) (range_with_len (l.first + 1) l.more) ≡ None
