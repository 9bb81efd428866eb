use Rattle.std.proofs.Common.{◌≡◌, ℕ, ◌+◌, ◌<◌, min, length, nat_lt, if◌then◌else◌, slice_index}
use Rattle.capture.specs.declared.capture_fault.TheConstants.{MAX_IN_ROUND}
use Rattle.capture.proofs.cap_rows.add_row.Given as goal

-- the rounds so far are summed up, and the others are as they were
abbrev pub invariant-loop-round : goal.invariant-loop-round
invariant-loop-round l = (k : ℕ) → k < length l.sums → slice_index l.sums k ≡ (if nat_lt k l.round then min MAX_IN_ROUND (slice_index l.fn.sums k + slice_index l.row k) else slice_index l.fn.sums k)
