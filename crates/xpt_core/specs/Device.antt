-- the queue of a device, by the events so far
use Rattle.std.specs.Prelude.{ℕ, ◌==◌, Bool, ◌&&◌, nat_lt, List, [], map, filter, count_by}
use Rattle.std.specs.Option.{option_map_or}
use Rattle.xpt_core.specs.Words.{Topology, Device, Waiting, is_some_and, is_adjust_of, adjusts_to, round, ccbs, submission, last, is_in_flight, sendings, caller_count, error_count, stays_begun, waiting, queue, queue_key, sorted_by, device_openings, openings, goes_now_to, Event, Submission, Passage}
use Rattle.cam_types.specs.declared.device.Device as config

-- a stay as it waits at its device
abbrev pub entry : Passage → Waiting
entry p = record { ccb = p.ccb; priority = p.priority }

-- the stays in the device's queue, the first in front
abbrev pub in_order : List Event → ℕ → List Passage
in_order events d = sorted_by queue_key (queue events d)

-- it is a stay at the device, and arrives after this round
abbrev pub is_later : ℕ → ℕ → Passage → Bool
is_later d round p = (p.device == d) && nat_lt round p.arrival

-- the device's stays that wait for the next round, in creation order
abbrev pub later : List Event → ℕ → List Passage
later events d = filter (is_later d (round events)) (waiting events)

-- the openings of the next round: the last adjustment says so, or else the configuration
abbrev pub next_openings : Topology → List Event → ℕ → ℕ
next_openings c events d = option_map_or adjusts_to (last (is_adjust_of d) events) (device_openings c d)

-- the CCB was submitted to the device, and is in flight
abbrev pub is_in_flight_at : List Event → ℕ → ℕ → Bool
is_in_flight_at events d ccb =
    is_in_flight events ccb && is_some_and (λ (s : Submission). s.device == d) (submission events ccb)

-- what a device holds
unfoldable pub device_state : Topology → ℕ → List Event → ℕ → Device
device_state c capacity events d = record {
  waiting = map entry (in_order events d);
  later = map entry (later events d);
  capacity = capacity;
  openings = openings c events d;
  next_openings = next_openings c events d;
  sent = count_by (goes_now_to events d) (sendings events);
  in_flight = count_by (is_in_flight_at events d) (ccbs events);
  callers = caller_count events d;
  errors = error_count events d;
  entered = count_by (λ (p : Passage). p.device == d) (stays_begun events);
}

-- what a device of the configuration holds before any event
abbrev pub new_device : ℕ → config.Device → Device
new_device capacity device = record {
  waiting = [];
  later = [];
  capacity = capacity;
  openings = device.openings;
  next_openings = device.openings;
  sent = 0;
  in_flight = 0;
  callers = 0;
  errors = 0;
  entered = 0;
}
