-- The rows of a configuration: weights, links, adapters and devices, how each is parsed and how it is spelled.
use Rattle.std.specs.Prelude.{ℕ, ◌-◌, min, List, [], ◌∷◌, ◌++◌, length, replicate, Option, Result, Ok, codes, decimal}
use Rattle.std.specs.Option.{option_map_or}
use Rattle.cam_types.specs.declared.adapter.Adapter.{Adapter}
use Rattle.cam_types.specs.declared.device.Device.{Device}
use Rattle.cam_types.specs.declared.weight_row.WeightRow.{WeightRow}
use Rattle.cam_types.specs.Weights.{row_to}
pub use Rattle.record_text.specs.declared.device_row.DeviceRow.{DeviceRow}
use Rattle.record_text.specs.Fields.{max_number, number_at, optional_at, unused_from}
use Rattle.record_text.specs.Steps.{◌>>=◌}
use Rattle.record_text.specs.Text.{Row}

-- ---- how a row is parsed

-- a number, and no field more
unfoldable pub one_number : Row → Result ℕ ℕ
one_number row = do
  n ← number_at row 1 max_number
  _ ← unused_from row 2
  Ok n

-- two numbers, and no field more
unfoldable pub two_numbers : Row → Result (ℕ × ℕ) ℕ
two_numbers row = do
  n ← number_at row 1 max_number
  m ← number_at row 2 max_number
  _ ← unused_from row 3
  Ok (n, m)

-- a row of the table of weights
unfoldable pub weight_at : Row → Result WeightRow ℕ
weight_at row = two_numbers row >>= λ p. Ok (row_to p.0 p.1)

-- openings, and the number of a link or none
unfoldable pub adapter_at : Row → Result Adapter ℕ
adapter_at row = do
  openings ← number_at row 1 max_number
  link ← optional_at row 2 max_number
  _ ← unused_from row 3
  Ok (record { openings = openings; link = link })

unfoldable pub device_at : Row → Result DeviceRow ℕ
device_at row = do
  bus ← number_at row 1 max_number
  target ← number_at row 2 65535
  lun ← number_at row 3 16383
  openings ← number_at row 4 max_number
  _ ← unused_from row 5
  Ok (record { bus = bus; target = target; lun = lun; openings = openings })

-- the device that a row spells
abbrev pub device_of : DeviceRow → Device
device_of d = record { bus = d.bus; target = d.target; lun = d.lun; openings = d.openings }

-- the same with a bus of at most 255
abbrev pub clamped : DeviceRow → Device
clamped d = record { bus = min d.bus 255; target = d.target; lun = d.lun; openings = d.openings }

-- ---- how a row is spelled

-- these fields, and empty ones up to eight
abbrev pub padded : List (List ℕ) → Row
padded fields = fields ++ replicate (8 - length fields) []

-- a number, or no byte
abbrev pub optional_text : Option ℕ → List ℕ
optional_text n = option_map_or decimal n []

abbrev pub weight_row : WeightRow → Row
weight_row w = padded (codes "weight" ∷ decimal w.last ∷ decimal w.weight ∷ [])

abbrev pub link_row : ℕ → Row
link_row openings = padded (codes "link" ∷ decimal openings ∷ [])

-- the number of an adapter's link stands in its third field, which has no byte if it is on none
abbrev pub adapter_row : Adapter → Row
adapter_row a = padded (codes "sim" ∷ decimal a.openings ∷ optional_text a.link ∷ [])

abbrev pub device_row : Device → Row
device_row d = padded (codes "dev" ∷ decimal d.bus ∷ decimal d.target ∷ decimal d.lun ∷ decimal d.openings ∷ [])

abbrev pub lane_row : ℕ → Row
lane_row adapter = padded (codes "lane" ∷ decimal adapter ∷ [])
