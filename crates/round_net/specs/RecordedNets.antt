-- the net of a recording
use Rattle.std.specs.Prelude.{ℕ, List, length, map}
use Rattle.cam_types.specs.Lists.{prefixed}
use Rattle.recording_file.specs.Caps.{part_of, cap_in}
use Rattle.recording_file.specs.declared.part.Part.{Part}
use Rattle.recording_file.specs.declared.part.PartKind.TheVariants as kind
use Rattle.recording_file.specs.Recorded.{Recorded, last_of}
use Rattle.recording_file.specs.declared.request.Request.{Request}
use Rattle.round_net.specs.Words.{Topology, weight}
use Rattle.round_net.specs.Instance.{Instance}
use Rattle.round_net.specs.Rows.{NetRows, instance_of_rows, live_of_rows, StayRow}
use Rattle.round_net.specs.Caps.{by_row}
use Rattle.round_net.specs.Nets.{net_with}
use Rattle.round_net.specs.declared.price_range.TheConstants.{MAX_NET_PRICE}

-- a request as a stay, beside the requests before it: its number from 0 on is the stay's CCB, in its try 0
unfoldable pub request_row : Topology → ℕ → List Request × Request → StayRow
request_row c rounds m = record {
  stay = record { ccb = length m.0; attempt = 0 };
  device = m.1.device;
  arrival = m.1.arrival;
  last = last_of rounds m.1;
  weight = weight c m.1.priority;
  live = m.1.sent;
}

-- the part that has a row
abbrev pub part_of_resource : Topology → ℕ → Part
part_of_resource c row = by_row c (part_of kind.Device) (part_of kind.Adapter) (part_of kind.Link) row

-- how many requests a row takes in a round: its openings in the configuration, unless a cap says otherwise
unfoldable pub recorded_cap : Recorded → ℕ → ℕ → ℕ
recorded_cap r row round = cap_in r.config r.caps (part_of_resource r.config row) round

-- the net of a recording: a command and a stay for each request, in their order
unfoldable pub net_of_recording : Recorded → NetRows
net_of_recording r = net_with r.config (length r.requests) r.rounds (map (request_row r.config r.rounds) (prefixed r.requests)) (recorded_cap r) MAX_NET_PRICE

-- what there is to plan of a recording, and where its stays were sent
abbrev pub instance_of_recording : Recorded → Instance
instance_of_recording r = instance_of_rows (net_of_recording r)

abbrev pub live_of_recording : Recorded → ℕ → ℕ
live_of_recording r = live_of_rows (net_of_recording r)
