use Rattle.std.proofs.Common.{◌≡◌, ℕ, ◌+◌, ◌<◌, min, length, nat_lt, if◌then◌else◌, slice_index}
use Rattle.capture.specs.Captured.{spare_in}
use Rattle.capture.specs.declared.capture_fault.TheConstants.{MAX_IN_ROUND}
use Rattle.capture.proofs.cap_rows.add_spare.Given as goal

-- the rounds so far have what there was room for, and the others are as they were
abbrev pub invariant-loop-round : goal.invariant-loop-round
invariant-loop-round l = (k : ℕ) → k < length l.row → slice_index l.row k ≡ (if nat_lt k l.round then min MAX_IN_ROUND (slice_index l.fn.row k + spare_in l.spare l.device k) else slice_index l.fn.row k)
