use Rattle.std.proofs.Common.{◌≡◌, ℕ, ◌<◌, max, min, length, nat_lt, if◌then◌else◌, slice_index}
use Rattle.capture.specs.declared.capture_fault.TheConstants.{MAX_IN_ROUND}
use Rattle.capture.proofs.cap_rows.raise_to.Given as goal

-- the rounds so far are raised, and the others are as they were
abbrev pub invariant-loop-round : goal.invariant-loop-round
invariant-loop-round l = (k : ℕ) → k < length l.row → slice_index l.row k ≡ (if nat_lt k l.round then min MAX_IN_ROUND (max (max l.usual (slice_index l.fn.row k)) (slice_index l.least k)) else slice_index l.fn.row k)
