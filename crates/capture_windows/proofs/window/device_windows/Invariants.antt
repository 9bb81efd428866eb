use Rattle.std.proofs.Common.{◌≡◌, ℕ, ◌<◌, length, get_or}
use Rattle.slots.specs.declared.numbered.InFlight.{InFlight}
use Rattle.capture_windows.specs.Counted.{IsCount}
use Rattle.capture_windows.specs.Devices.{IsRoom, KnownDevice, WindowRoom}
use Rattle.capture_windows.proofs.window.device_windows.Given as goal

-- those of the devices so far
abbrev pub invariant-loop-device : goal.invariant-loop-device
invariant-loop-device l = record {
  rooms : (k : ℕ) (room : WindowRoom) → k < l.device → (known : KnownDevice) → IsRoom l.span l.rounds l.attempts k (get_or l.devices k known) (get_or l.windows.rooms.items k room);
  size : length l.windows.rooms.items ≡ l.device;
  counts : (k : ℕ) (d : InFlight) → k < l.device → IsCount l.span l.attempts k (get_or l.windows.counts.items k d);
  each : length l.windows.counts.items ≡ l.device;
}
