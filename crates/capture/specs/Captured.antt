-- the recording of a capture
use Rattle.std.specs.Prelude.{◌≡◌, ℕ, ◌<◌, ◌≤◌, ◌==◌, max, min, nat_lt, Bool, true, false, not, if◌then◌else◌, List, length, map, filter, slice_get, slice_index, Some, Vec, ◌+◌, is_some}
use Rattle.std.specs.Global.{Global}
use Rattle.std.specs.List.{flat_map, list_any, range_with_len, sum_by}
use Rattle.std.specs.Option.{option_map_or}
use Rattle.cam_types.specs.Topology.{Topology}
use Rattle.cam_types.specs.declared.device.Device.{Device}
use Rattle.cam_types.specs.Questions.{is_on}
use Rattle.cam_types.specs.declared.limits.TheConstants.{MAX_OPENINGS}
use Rattle.recording_file.specs.Caps.{openings, part_of, cap_in}
use Rattle.recording_file.specs.declared.cap.Cap.{Cap}
use Rattle.recording_file.specs.declared.part.Part.{Part}
use Rattle.recording_file.specs.declared.part.PartKind.{PartKind}
use Rattle.recording_file.specs.declared.part.PartKind.TheVariants as kind
use Rattle.recording_file.specs.Names.{NameValue}
use Rattle.recording_file.specs.Recorded.{Recorded, load}
use Rattle.recording_file.specs.declared.request.Request.{Request}
use Rattle.recording_file.specs.Runs.{run_starts, run_last}
use Rattle.capture.specs.Timed.{TimedRequest}
use Rattle.capture.specs.Rounds.{Rounded, Span, in_rounds}
use Rattle.capture.specs.Loads.{is_pressed}
use Rattle.capture.specs.Parts.{all_parts}
use Rattle.capture.specs.declared.capture_fault.TheConstants.{MAX_IN_ROUND}

-- the flag of a number in a list, and false where the list has none
abbrev pub is_flagged : List Bool → ℕ → Bool
is_flagged flags number = option_map_or (λ b. b) (slice_get flags number) false

-- a device that isn't rated at its openings: where it is pressed, it took what it can
abbrev pub is_measured : List Bool → Part → Bool
is_measured rated p = by p.kind
  where
    by : PartKind → Bool
    by kind.Device = not (is_flagged rated p.number)
    by kind.Adapter = false
    by kind.Link = false

-- an adapter of unknown openings
abbrev pub is_open : List Bool → Part → Bool
is_open opened p = by p.kind
  where
    by : PartKind → Bool
    by kind.Device = false
    by kind.Adapter = is_flagged opened p.number
    by kind.Link = false

-- how many starts more a device had room for in a round, by its row; a device without one had none
abbrev pub spare_in : List (Vec ℕ Global) → ℕ → ℕ → ℕ
spare_in spare device round = option_map_or (λ (row : Vec ℕ Global). slice_index row.items round) (slice_get spare device) 0

-- what a device started in a round, and what more it had room for, as far as a cap can say it
abbrev pub room : Topology → List (Vec ℕ Global) → List Request → Part → ℕ → ℕ
room c spare qs p round = min MAX_IN_ROUND (load c qs p round + spare_in spare p.number round)

-- how many a part takes in a round by itself: a device that is measured takes what it had room for, and in a round in which it
-- isn't pressed its openings if these are more; anything else takes its openings, or what it took if that is more
unfoldable pub own_cap : Topology → List Bool → List (Vec ℕ Global) → List Request → Part → ℕ → ℕ
own_cap c rated spare qs p round =
    if is_measured rated p then (if is_pressed qs p.number round then room c spare qs p round else max (openings c p) (room c spare qs p round))
    else max (openings c p) (load c qs p round)

-- the devices on an adapter
abbrev pub devices_on : Topology → ℕ → List ℕ
devices_on c adapter = filter (is_on c adapter) (range_with_len 0 (length c.devices))

-- a number of its devices, summed up
abbrev pub sum_on : Topology → ℕ → (Part → ℕ) → ℕ
sum_on c adapter number = sum_by (λ n. number (part_of kind.Device n)) (devices_on c adapter)

-- how many an adapter takes of unknown openings: what its devices take together, but no fewer than its openings and what it
-- took. If the devices' openings are more than its own, it takes the most that a cap says.
unfoldable pub open_cap : Topology → List Bool → List (Vec ℕ Global) → List Request → Part → ℕ → ℕ
open_cap c rated spare qs p round =
    if nat_lt (openings c p) (sum_on c p.number (openings c)) then MAX_IN_ROUND
    else min MAX_IN_ROUND (max (max (openings c p) (load c qs p round)) (sum_on c p.number (λ d. own_cap c rated spare qs d round)))

-- how many a part takes in a round
abbrev pub cap_of : Topology → List Bool → List Bool → List (Vec ℕ Global) → List Request → Part → ℕ → ℕ
cap_of c rated opened spare qs p round = if is_open opened p then open_cap c rated spare qs p round else own_cap c rated spare qs p round

-- the cap of a part in the run of rounds that begins in this one, by its number in each round
unfoldable pub run_cap : Part → (ℕ → ℕ) → ℕ → ℕ → Cap
run_cap p number rounds first = record {
  part = p;
  first = first;
  last = run_last number rounds first;
  most = number first;
}

-- one for each longest run of rounds with one number that isn't the usual one
unfoldable pub run_caps : Part → (ℕ → ℕ) → ℕ → ℕ → List Cap
run_caps p number usual rounds = map (run_cap p number rounds) (run_starts number usual rounds)

-- the caps of a part: one for each longest run of rounds in which it takes one number of requests that isn't its openings
abbrev pub part_caps : Topology → List Bool → List Bool → List (Vec ℕ Global) → List Request → ℕ → Part → List Cap
part_caps c rated opened spare qs rounds p = run_caps p (cap_of c rated opened spare qs p) (openings c p) rounds

-- a request's completion is known
abbrev pub is_completed : Request → Bool
is_completed q = is_some q.done

abbrev pub has_completions : List Request → Bool
has_completions qs = list_any is_completed qs

-- the recording of a capture: with completions, if one is known
unfoldable pub recorded_of : Topology → List Bool → List Bool → List (Vec ℕ Global) → List NameValue → Rounded → Recorded
recorded_of c rated opened spare names r = record {
  unit = Some r.unit;
  rounds = r.rounds;
  config = c;
  completions = has_completions r.requests;
  names = names;
  caps = flat_map (part_caps c rated opened spare r.requests r.rounds) (all_parts c);
  requests = r.requests;
}

-- the recording of requests in time
abbrev pub captured : Span → Topology → List Bool → List Bool → List (Vec ℕ Global) → List NameValue → List TimedRequest → Recorded
captured unit c rated opened spare names qs = recorded_of c rated opened spare names (in_rounds unit qs)

-- the openings of an adapter that are unknown: those of its devices together, but no more than there may be
abbrev pub shared_openings : List Device → ℕ → ℕ
shared_openings devices adapter = max 1 (min MAX_OPENINGS (sum_by (λ (d : Device). d.openings) (filter (λ (d : Device). d.bus == adapter) devices)))

-- an adapter of unknown openings is never what limits: in each round it takes what its devices take together, or the
-- most that a cap says
abbrev pub NeverLimits : List Bool → Recorded → Type 0
NeverLimits opened r = (a round : ℕ) → a < length r.config.adapters → is_flagged opened a ≡ true → 1 ≤ round → round ≤ r.rounds → min MAX_IN_ROUND (sum_on r.config a (λ d. cap_in r.config r.caps d round)) ≤ cap_in r.config r.caps (part_of kind.Adapter a) round
