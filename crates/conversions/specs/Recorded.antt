-- the recording of a history
use Rattle.std.specs.Prelude.{ℕ, false, List, [], map, flat_map, None}
use Rattle.std.specs.List.{range_with_len}
use Rattle.cam_types.specs.Topology.{Topology}
use Rattle.event_rules.specs.Counts.{round}
use Rattle.event_rules.specs.Past.{Past}
use Rattle.event_rules.specs.Stays.{stays_begun}
use Rattle.event_rules.specs.declared.event.Event.{Event}
use Rattle.recording_file.specs.Caps.{openings}
use Rattle.recording_file.specs.Recorded.{Recorded}
use Rattle.recording_file.specs.Runs.{run_starts, run_last}
use Rattle.recording_file.specs.declared.cap.Cap.{Cap}
use Rattle.recording_file.specs.declared.request.Request.{Request}
use Rattle.round_net.specs.Caps.{resource_count, cap}
use Rattle.round_net.specs.RecordedNets.{part_of_resource}
use Rattle.conversions.specs.Requests.{request_of}

-- a configuration without its lanes
abbrev pub without_lanes : Topology → Topology
without_lanes c = record c { lanes = [] }

-- the cap of a row in the run of rounds that begins in this one
unfoldable pub run_cap : Topology → List Event → ℕ → ℕ → Cap
run_cap c events row first = record {
  part = part_of_resource c row;
  first = first;
  last = run_last (cap c events row) (round events) first;
  most = cap c events row first;
}

-- the caps of a row: one for each longest run of rounds in which it takes one number of commands that isn't its openings
unfoldable pub resource_caps : Topology → List Event → ℕ → List Cap
resource_caps c events row = map (run_cap c events row) (run_starts (cap c events row) (openings c (part_of_resource c row)) (round events))

-- the caps of that many rows
unfoldable pub caps_of : Topology → List Event → ℕ → List Cap
caps_of c events rows = flat_map (resource_caps c events) (range_with_len 0 rows)

-- a recording of a history's rounds, with these caps and requests
abbrev pub recorded_with : Past → List Cap → List Request → Recorded
recorded_with past caps requests = record {
  unit = None;
  rounds = round past.events;
  config = without_lanes past.config;
  names = [];
  caps = caps;
  requests = requests;
  completions = false;
}

-- the recording of a history: the caps of all rows, and a request for each stay, in creation order
unfoldable pub recorded_of : Past → Recorded
recorded_of past =
    recorded_with past (caps_of past.config past.events (resource_count past.config)) (map (request_of past.events) (stays_begun past.events))
