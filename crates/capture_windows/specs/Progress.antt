-- how far windows were taken
use Rattle.std.specs.Prelude.{◌≡◌, ℕ, ◌+◌, ◌*◌, ◌^◌, ◌<◌, ◌≤◌, Bool, false, List, length, slice_index_or, All, IfSome, nat_lt}
use Rattle.std.specs.List.{list_all}
use Rattle.capture_windows.specs.Attempts.{Attempt, TimeSpan}
use Rattle.capture_windows.specs.Devices.{KnownDevice, WindowRoom}
use Rattle.capture_windows.specs.Windows.{IsFault}
use Rattle.capture_windows.specs.declared.window_fault.WindowFault.{WindowFault}
use Rattle.capture_windows.specs.declared.window_fault.WindowFault.TheVariants.{NoDevice, OutOfMemory, TooFew, TooLong, TooMany}

-- where the next window begins, and its round 1; how long a round is; and what is known of each device
pub record Progress : Type 0 where
  pub from : ℕ
  pub begin : ℕ
  pub length : ℕ
  pub devices : List KnownDevice

-- a service time is at least a nanosecond
abbrev pub HasService : KnownDevice → Type 0
HasService k = IfSome k.known.service (λ t. 1 ≤ t)

pub record IsProgress (p : Progress) : Type 0 where
  pub length : 1 ≤ p.length
  pub service : All HasService p.devices

-- what is known of a device once a window has shown its slots
abbrev pub known_after : KnownDevice → WindowRoom → KnownDevice
known_after k room = record k { known = record { in_flight = room.slots.in_flight; service = room.slots.service } }

-- the same of each device
abbrev pub AreKnownAfter : List KnownDevice → List WindowRoom → List KnownDevice → Type 0
AreKnownAfter old rooms new = (device : ℕ) (k : KnownDevice) (room : WindowRoom) → device < length old → slice_index_or new device k ≡ known_after (slice_index_or old device k) (slice_index_or rooms device room)

-- each attempt is of one of so many devices
abbrev pub are_known : ℕ → List Attempt → Bool
are_known devices attempts = list_all (λ (a : Attempt). nat_lt a.request.device devices) attempts

-- a window of so many rounds can be the next one: it has some, not too many, and ends while there is time
pub record CanBeNext (p : Progress) (count : ℕ) : Type 0 where
  pub some : 1 ≤ count
  pub few : count ≤ 65534
  pub in_time : p.begin + count * p.length < 2 ^ 64

-- from where the last window ended to the end of the next one, of so many rounds
abbrev pub next_span : Progress → ℕ → TimeSpan
next_span p count = record { from = p.from; until = p.begin + count * p.length }

-- why the next window, of so many rounds, isn't taken
abbrev pub IsNextFault : Progress → List Attempt → ℕ → WindowFault → Type 0
IsNextFault p attempts count TooLong = CanBeNext p count → ⊥
IsNextFault p attempts count NoDevice = are_known (length p.devices) attempts ≡ false
IsNextFault p attempts count TooMany = IsFault (next_span p count) attempts p.devices TooMany
IsNextFault p attempts count (TooFew device number) = IsFault (next_span p count) attempts p.devices (TooFew device number)
IsNextFault p attempts count OutOfMemory = IsFault (next_span p count) attempts p.devices OutOfMemory
