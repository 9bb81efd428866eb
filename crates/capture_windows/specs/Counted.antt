-- what is reckoned of each device
use Rattle.std.specs.Prelude.{◌≡◌, ℕ, ◌<◌, List, Vec, length, map, slice_index_or}
use Rattle.std.specs.Global.{Global}
use Rattle.std.specs.List.{range_with_len}
use Rattle.slots.specs.Bounds.{AreBounds}
use Rattle.slots.specs.Flights.{span_held}
use Rattle.slots.specs.declared.numbered.InFlight.{InFlight}
use Rattle.capture_windows.specs.Attempts.{Attempt, TimeSpan}
use Rattle.capture_windows.specs.Devices.{attempts_of, flights_at}

-- these counts are of the flights of a device
pub record IsCount (span : TimeSpan) (attempts : List Attempt) (device : ℕ) (counts : InFlight) : Type 0 where
  pub bounds : AreBounds (map (span_held 0) (flights_at span attempts device)) counts.bounds.begins.items counts.bounds.ends.items

-- those of each device
abbrev pub AreCounts : TimeSpan → List Attempt → List InFlight → Type 0
AreCounts span attempts counts = (device : ℕ) (d : InFlight) → device < length counts → IsCount span attempts device (slice_index_or counts device d)

-- these lists are the attempts of each of so many devices
abbrev pub AreByDevice : ℕ → List Attempt → List (Vec Attempt Global) → Type 0
AreByDevice count attempts lists = map (λ (v : Vec Attempt Global). v.items) lists ≡ map (λ device. attempts_of device attempts) (range_with_len 0 count)
