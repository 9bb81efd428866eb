-- what a recorder keeps
use Rattle.std.specs.Prelude.{ℕ, nat_le, if◌then◌else◌, [], Option, Some, None}
use Rattle.recorder.specs.Faults.{arrival_fault}
use Rattle.recorder.specs.Notes.{Noted}
use Rattle.recorder.specs.declared.recorder.TheConstants.{MAX_DEVICES, MAX_DRIVERS}
use Rattle.recorder.specs.declared.note_fault.NoteFault.{NoteFault}
use Rattle.recorder.specs.declared.note_fault.NoteFault.TheVariants.{NoDevice, NoDriver}
use Rattle.window_recordings.specs.declared.cut_window.Cut.{Cut}
use Rattle.window_recordings.specs.declared.cut_window.CutWindow.{CutWindow}

-- how many devices and drivers were added, what was noted and isn't in a window yet, a window that is over and has no recording yet, and one
-- that has
pub record Recorded : Type 0 where
  pub devices : ℕ
  pub drivers : ℕ
  pub noted : Noted
  pub cut : Option Cut
  pub window : Option CutWindow

-- of a recorder that keeps so many requests at most
abbrev pub nothing_noted : ℕ → Recorded
nothing_noted room = record {
  devices = 0;
  drivers = 0;
  noted = record { devices = MAX_DEVICES; drivers = MAX_DRIVERS; room = room; time = 0; notes = [] };
  cut = None;
  window = None;
}

-- why an arrival isn't noted
abbrev pub recorder_fault : ℕ → ℕ → ℕ → ℕ → ℕ → Recorded → Option NoteFault
recorder_fault id device driver priority time r =
    if nat_le r.devices device then Some NoDevice
    else if nat_le r.drivers driver then Some NoDriver
    else arrival_fault id device driver priority time r.noted
