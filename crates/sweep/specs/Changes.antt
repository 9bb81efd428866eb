-- what a setting changes of a script
use Rattle.std.specs.Prelude.{ℕ, ◌+◌, ◌==◌, Bool, true, false, List, [], ◌∷◌, find, Option}
use Rattle.std.specs.Option.{option_map_or}
use Rattle.cam_types.specs.Topology.{Topology}
use Rattle.cam_types.specs.declared.adapter.Adapter.{Adapter}
use Rattle.cam_types.specs.declared.device.Device.{Device}
use Rattle.trace_file.specs.Scenarios.{Scenario}
use Rattle.sweep.specs.Settings.{Place, Change}
use Rattle.sweep.specs.declared.setting.Place.TheVariants as place

-- a change is of the device of this number, or of the adapter of this number
abbrev pub is_of_device : ℕ → Change → Bool
is_of_device n change = elim change.place [
  | place.Device d ↦ d == n
  | place.Adapter a ↦ false
]

abbrev pub is_of_adapter : ℕ → Change → Bool
is_of_adapter n change = elim change.place [
  | place.Device d ↦ false
  | place.Adapter a ↦ a == n
]

-- the openings of the first change of that kind, and without one the own ones
abbrev pub openings_by : (Change → Bool) → List Change → ℕ → ℕ
openings_by is_of changes own = option_map_or (λ (change : Change). change.openings) (find is_of changes) own

-- adapters and devices, numbered from here on, each with its openings by the changes
unfoldable pub changed_adapters : List Change → ℕ → List Adapter → List Adapter
changed_adapters changes n [] = []
changed_adapters changes n (a ∷ rest) = record a { openings = openings_by (is_of_adapter n) changes a.openings } ∷ changed_adapters changes (n + 1) rest

unfoldable pub changed_devices : List Change → ℕ → List Device → List Device
changed_devices changes n [] = []
changed_devices changes n (d ∷ rest) = record d { openings = openings_by (is_of_device n) changes d.openings } ∷ changed_devices changes (n + 1) rest

-- a configuration with these openings, and nothing else changed
abbrev pub changed_config : Topology → List Change → Topology
changed_config c changes = record c { adapters = changed_adapters changes 0 c.adapters; devices = changed_devices changes 0 c.devices }

-- a script with these openings, and nothing else changed
abbrev pub changed_script : Scenario → List Change → Scenario
changed_script s changes = record s { config = changed_config s.config changes }
