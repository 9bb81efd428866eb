-- a window that is taken, and why one isn't
use Rattle.std.specs.Prelude.{◌≡◌, ℕ, ◌<◌, ◌≤◌, ◌^◌, List, length, slice_index_or, Err}
use Rattle.slots.specs.Windowed.{slots_in_window}
use Rattle.slots.specs.declared.slots_fault.SlotsFault.{SlotsFault}
use Rattle.slots.specs.declared.slots_fault.SlotsFault.TheVariants as slots_faults
use Rattle.capture_windows.specs.Attempts.{Attempt, TimeSpan}
use Rattle.capture_windows.specs.Devices.{IsRoom, KnownDevice, Rounds, WindowRoom, attempts_of, earlier_flights, own_flights}
use Rattle.capture_windows.specs.declared.window_fault.WindowFault.{WindowFault}
use Rattle.capture_windows.specs.declared.window_fault.WindowFault.TheVariants.{NoDevice, OutOfMemory, TooFew, TooLong, TooMany}

-- what each device had room for
pub record AreRooms (span : TimeSpan) (rounds : Rounds) (attempts : List Attempt) (devices : List KnownDevice) (rooms : List WindowRoom) : Type 0 where
  pub size : length rooms ≡ length devices
  pub each : (device : ℕ) (known : KnownDevice) (room : WindowRoom) → device < length devices → IsRoom span rounds attempts device (slice_index_or devices device known) (slice_index_or rooms device room)

-- the depth of a device is below this number, which were in flight at one time
pub record IsTooFew (span : TimeSpan) (attempts : List Attempt) (devices : List KnownDevice) (device number : ℕ) : Type 0 where
  pub within : device < length devices
  pub few : (known : KnownDevice) → slots_in_window (earlier_flights span (attempts_of device attempts)) (own_flights span (attempts_of device attempts)) (slice_index_or devices device known).known (slice_index_or devices device known).depth ≡ Err (slots_faults.TooFew number)

-- why a window isn't taken
abbrev pub IsFault : TimeSpan → List Attempt → List KnownDevice → WindowFault → Type 0
IsFault span attempts devices (TooFew device number) = IsTooFew span attempts devices device number
IsFault span attempts devices TooMany = 2 ^ 32 ≤ length attempts
IsFault span attempts devices TooLong = ⊥
IsFault span attempts devices NoDevice = ⊥
IsFault span attempts devices OutOfMemory = Unit {0}

-- a fault of a device
abbrev pub fault_of : ℕ → SlotsFault → WindowFault
fault_of device (slots_faults.TooFew number) = TooFew device number
fault_of device slots_faults.OutOfMemory = OutOfMemory
