-- How many bytes a text may have.
use Rattle.std.proofs.Common.{◌≡◌, ◌<◌, ◌≤◌, ℕ, List, ◌++◌, length, Bool, true, false, cond, ap, arith, length-append, Option, Some, None, IfSome, bytes_eq, ◌||◌}
use Rattle.std.proofs.lemmas.List.{take-append-le}
use Rattle.cam_types.specs.declared.limits.TheConstants.{MAX_BYTES}
use Rattle.recording_file.specs.Recorded.{MAX_RECORDING_BYTES}
use Rattle.recording_file.specs.Words.{name_text}
use Rattle.recording_file.specs.Whole.{begins_recording, max_bytes, IsTooLong}

pub most_within : (text : List ℕ) → (10 ≤ max_bytes text) × (max_bytes text ≤ MAX_RECORDING_BYTES)
unfolding max_bytes
most_within text = by (begins_recording text)
  where
    by : (b : Bool) → (10 ≤ cond b MAX_RECORDING_BYTES MAX_BYTES) × (cond b MAX_RECORDING_BYTES MAX_BYTES ≤ MAX_RECORDING_BYTES)
    by true = (omega arith, omega arith)
    by false = (omega arith, omega arith)

-- ten bytes settle it
most_front : (came left : List ℕ) → 10 ≤ length came → max_bytes (came ++ left) ≡ max_bytes came
unfolding max_bytes
most_front came left h = ap (λ (l : List ℕ). cond (bytes_eq (name_text false) l || bytes_eq (name_text true) l) MAX_RECORDING_BYTES MAX_BYTES) (take-append-le 10 came left h)

-- where more came than may be, all of it is more than may be
pub too_long : (before after : Option (List ℕ)) → IsTooLong before after → IfSome before (λ all. max_bytes all < length all)
too_long None after h = tt
too_long (Some all) None h = absurd h.2
too_long (Some all) (Some left) h =
    let within = most_within h.0 in
    let more = h.1 in
    let front = most_front h.0 left (omega arith) in
    let size = length-append h.0 left in
    let same : all ≡ h.0 ++ left = h.2 in
    rw (same, front) (omega arith)
