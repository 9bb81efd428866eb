-- what was asked for, and in which rounds
use Rattle.std.specs.Prelude.{ℕ, List, [], ◌∷◌, map, false, Option, option_map}
use Rattle.std.specs.List.{filter_map}
use Rattle.cam_types.specs.Lists.{prefixed}
use Rattle.event_rules.specs.Counts.{round}
use Rattle.event_rules.specs.declared.event.Event.{Event}
use Rattle.event_rules.specs.Event.{submission_of}
use Rattle.event_rules.specs.Sorted.{sorted_by}
use Rattle.event_rules.specs.declared.submission.Submission.{Submission}
use Rattle.recording_file.specs.declared.request.Request.{Request}
pub use Rattle.conversions.specs.declared.arrival.Arrival.{Arrival}

abbrev pub in_round : ℕ → Submission → Arrival
in_round r s = record { round = r; submission = s }

-- what an event asks for, after the events before it: a submit, in the round of its place
abbrev pub arrival_of : List Event × Event → Option Arrival
arrival_of m = option_map (in_round (round m.0)) (submission_of m.1)

-- the submits of a history, in order
unfoldable pub arrivals : List Event → List Arrival
arrivals events = filter_map arrival_of (prefixed events)

-- a request, without retries and flags
abbrev pub arrival_by : Request → Arrival
arrival_by q = in_round q.arrival (record {
  driver = q.driver;
  device = q.device;
  priority = q.priority;
  retries = 0;
  flags = record { qfreeze = false; qfrzdis = false };
})

abbrev pub round_key : Arrival → List ℕ
round_key a = a.round ∷ []

-- requests by the rounds in which they arrived, those of a round in their order
unfoldable pub requested : List Request → List Arrival
requested requests = sorted_by round_key (map arrival_by requests)
