use Rattle.std.proofs.Common.{◌≡◌, ◌+◌, ◌-◌, false, vec_len}
use Rattle.std.specs.Io.KnownBytes.{Consumes}
use Rattle.cam_types.specs.Watched.{device_of, has_failed}
use Rattle.recording_file.specs.Recorded.{MAX_RECORDING_BYTES}
use Rattle.recording_file.proofs.whole.read_long.Given as goal

abbrev pub invariant-loop-piece : goal.invariant-loop-piece
invariant-loop-piece g l = (has_failed l.reader ≡ false)
    × Consumes (g.R.Read.remaining (device_of l.fn.reader)) (g.R.Read.remaining (device_of l.reader)) l.text.items

abbrev pub decreases-loop-piece : goal.decreases-loop-piece
decreases-loop-piece g l = MAX_RECORDING_BYTES + 1 - vec_len l.text
