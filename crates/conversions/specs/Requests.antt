-- the requests that a history's stays are
use Rattle.std.specs.Prelude.{ℕ, ◌-◌, ◌==◌, if◌then◌else◌, List, Option, Some, None, slice_get, unwrap_or}
use Rattle.std.specs.Option.{option_map_or}
use Rattle.event_rules.specs.Counts.{round, submissions}
use Rattle.event_rules.specs.Live.{live_round}
use Rattle.event_rules.specs.declared.submission.Submission.{Submission}
use Rattle.event_rules.specs.declared.event.Event.{Event}
use Rattle.event_rules.specs.declared.passage.Passage.{Passage}
use Rattle.xpt_core.specs.declared.stays.stay_record.StayRecord.{StayRecord}
use Rattle.recording_file.specs.declared.request.Request.{Request}
use Rattle.round_net.specs.Nets.{last_round}

-- the driver that submitted a CCB, and 0 where there is no such CCB
abbrev pub driver_of : List Submission → ℕ → ℕ
driver_of submitted ccb = option_map_or (λ (s : Submission). s.driver) (slice_get submitted ccb) 0

-- a last round as a request has it: none where it is the last of all
abbrev pub unless_end : ℕ → ℕ → Option ℕ
unless_end rounds last = if last == rounds then None else Some last

-- a stay as a request of its CCB's driver
unfoldable pub request_of : List Event → Passage → Request
request_of events p = record {
  driver = driver_of (submissions events) p.ccb;
  device = p.device;
  priority = p.priority;
  arrival = p.arrival;
  last = unless_end (round events) (last_round events p);
  sent = live_round events p;
  done = None;
}

-- the same by the record of the stay, in a history of that many rounds in which this was submitted
abbrev pub last_by : ℕ → StayRecord → ℕ
last_by rounds r = option_map_or (λ arrival. arrival - 1) r.next_arrival rounds

abbrev pub request_by : List Submission → ℕ → StayRecord → Request
request_by submitted rounds r = record {
  driver = driver_of submitted r.stay.ccb;
  device = r.stay.device;
  priority = r.stay.priority;
  arrival = r.stay.arrival;
  last = unless_end rounds (last_by rounds r);
  sent = unwrap_or r.sent rounds;
  done = None;
}
