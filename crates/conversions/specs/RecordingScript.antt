-- the script of a recording
use Rattle.std.specs.Prelude.{ℕ, if◌then◌else◌, nat_lt, max, List, [], length, map, fold, replicate, Option, Some, None}
use Rattle.std.specs.List.{range_with_len}
use Rattle.std.specs.Option.{option_or}
use Rattle.cam_types.specs.Bounds.{max_bounds}
use Rattle.cam_types.specs.Lists.{prefixed, first_answer}
use Rattle.cam_types.specs.Topology.{Topology}
use Rattle.cam_types.specs.declared.adapter.Adapter.{Adapter}
use Rattle.cam_types.specs.declared.device.Device.{Device}
use Rattle.cam_types.specs.declared.limits.TheConstants.{MAX_OPENINGS, MAX_ROUNDS}
use Rattle.recording_file.specs.Caps.{part_of, cap_in}
use Rattle.recording_file.specs.declared.part.Part.{Part}
use Rattle.recording_file.specs.Recorded.{Recorded}
use Rattle.recording_file.specs.declared.part.PartKind.TheVariants as kind
use Rattle.trace_file.specs.Scenarios.{Scenario, scenario_by}
use Rattle.trace_file.specs.declared.script_parser.TheConstants.{MAX_ROWS}
use Rattle.conversions.specs.Arrivals.{requested}
use Rattle.conversions.specs.Faults.{ScriptFault, arrivals_fault}
use Rattle.conversions.specs.declared.fault.ScriptFault.TheVariants as fault
use Rattle.conversions.specs.Steps.{drivers_of}

-- the greatest of these numbers of rounds 1 to n, and 1 if none is greater
abbrev pub greatest_to : (ℕ → ℕ) → ℕ → ℕ
greatest_to number n = fold max 1 (map number (range_with_len 1 n))

-- the greatest cap that a part has in a round, and 1 if it takes nothing in any
unfoldable pub greatest : Recorded → Part → ℕ
greatest r p = greatest_to (cap_in r.config r.caps p) r.rounds

-- links, adapters and devices with these caps for openings: the number of each is how many are before it
abbrev pub link_at : Recorded → List ℕ × ℕ → ℕ
link_at r m = greatest r (part_of kind.Link (length m.0))

abbrev pub adapter_at : Recorded → List Adapter × Adapter → Adapter
adapter_at r m = record m.1 { openings = greatest r (part_of kind.Adapter (length m.0)) }

abbrev pub device_at : Recorded → List Device × Device → Device
device_at r m = record m.1 { openings = greatest r (part_of kind.Device (length m.0)) }

-- the recording's weights, links, adapters and devices, with the greatest caps for openings, and a lane on each adapter
unfoldable pub config_of : Recorded → Topology
config_of r = record {
  weights = r.config.weights;
  links = map (link_at r) (prefixed r.config.links);
  adapters = map (adapter_at r) (prefixed r.config.adapters);
  devices = map (device_at r) (prefixed r.config.devices);
  lanes = range_with_len 0 (length r.config.adapters);
}

-- more openings than there may be
abbrev pub too_many : (ℕ → ℕ → ScriptFault) → ℕ → ℕ → Option ScriptFault
too_many named number openings = if nat_lt MAX_OPENINGS openings then Some (named number openings) else None

abbrev pub device_fault : List Device × Device → Option ScriptFault
device_fault m = too_many fault.Device (length m.0) m.1.openings

abbrev pub adapter_fault : List Adapter × Adapter → Option ScriptFault
adapter_fault m = too_many fault.Adapter (length m.0) m.1.openings

abbrev pub link_fault : List ℕ × ℕ → Option ScriptFault
link_fault m = too_many fault.Link (length m.0) m.1

-- the first device, adapter or link that has more
unfoldable pub openings_fault : Topology → Option ScriptFault
openings_fault c =
    option_or (first_answer device_fault (prefixed c.devices)) (option_or (first_answer adapter_fault (prefixed c.adapters)) (first_answer link_fault (prefixed c.links)))

-- more rounds or requests than a script may have
unfoldable pub size_fault : Recorded → Option ScriptFault
size_fault r =
    if nat_lt MAX_ROUNDS r.rounds then Some (fault.Rounds r.rounds)
    else if nat_lt MAX_ROWS (length r.requests) then Some (fault.Requests (length r.requests))
    else None

-- what is too much of a recording, in this order
abbrev pub recording_fault : Recorded → Option ScriptFault
recording_fault r = option_or (size_fault r) (option_or (openings_fault (config_of r)) (arrivals_fault (requested r.requests)))

-- lanes that complete each command plainly, and drivers that ask for the requests
abbrev pub scripted_recording : Recorded → Scenario
scripted_recording r =
    scenario_by (config_of r) max_bounds (drivers_of (requested r.requests)) (replicate (length r.config.adapters) [])
