use Rattle.std.specs.Prelude.{ℕ, Bool, false, not, ◌==◌, ◌&&◌, List, length, Result, Ok, Err}
use Rattle.cam_types.specs.declared.watched.Watched.{Watched}

-- the reader or writer that is watched
abbrev pub device_of : {D : Type 0} → Watched D → D
device_of w = w.device

-- a call of it has failed
abbrev pub has_failed : {D : Type 0} → Watched D → Bool
has_failed w = w.failed

-- no write stands after the last flush that succeeded
abbrev pub is_flushed : {D : Type 0} → Watched D → Bool
is_flushed w = w.flushed

-- a write took none of some bytes
abbrev pub took_nothing : {E : Type 0} → Result ℕ E → List ℕ → Bool
took_nothing (Ok taken) bytes = (taken == 0) && not (length bytes == 0)
took_nothing (Err e) bytes = false
