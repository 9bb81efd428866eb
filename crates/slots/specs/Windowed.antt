-- the slots of a device in a window of a capture: by flights that were started before it, and flights that were started in it
use Rattle.std.specs.Prelude.{ℕ, ◌==◌, Bool, nat_le, nat_lt, ◌&&◌, max, if◌then◌else◌, List, ◌++◌, length, map, filter, Option, Some, unwrap_or, Result, Ok, Err}
use Rattle.std.specs.List.{filter_map, list_any}
use Rattle.slots.specs.Spans.{covering}
use Rattle.slots.specs.Flights.{ENOUGH, Flight, end_after, greatest, mean, span_held, time_of_service, times_of_service}
use Rattle.slots.specs.declared.slots_fault.SlotsFault.{SlotsFault}
use Rattle.slots.specs.declared.slots_fault.SlotsFault.TheVariants.{TooFew}
pub use Rattle.slots.specs.declared.numbered.NumberedFlight.{NumberedFlight}
pub use Rattle.slots.specs.declared.window_slots.Known.{Known}
pub use Rattle.slots.specs.declared.window_slots.WindowSlots.{WindowSlots}

abbrev pub flight_of : NumberedFlight → Flight
flight_of n = n.flight

abbrev pub number_of : NumberedFlight → ℕ
number_of n = n.number

-- how many flights are in flight at a time, where their ends are known
abbrev pub flying : List Flight → ℕ → ℕ
flying fs t = covering (map (span_held 0) fs) t

-- those of before the window, and its own
abbrev pub flights_in_window : List NumberedFlight → List Flight → List Flight
flights_in_window earlier own = map flight_of earlier ++ own

-- a flight with the number of those that are in flight when it is started
abbrev pub numbered_among : List Flight → Flight → NumberedFlight
numbered_among fs f = record { flight = f; number = flying fs f.start }

-- the window's own flights with their numbers
abbrev pub numbered_own : List NumberedFlight → List Flight → List NumberedFlight
numbered_own earlier own = map (numbered_among (flights_in_window earlier own)) own

-- the most that were in flight at one time up to the window's end
abbrev pub most_so_far : Known → List NumberedFlight → List Flight → ℕ
most_so_far known earlier own = max known.in_flight (greatest (map number_of (numbered_own earlier own)))

-- a flight took the last slot: when it was started, the most were in flight, and it was one of them
abbrev pub took_last : ℕ → NumberedFlight → Bool
took_last most n = nat_lt n.flight.start (end_after 0 n.flight.start n.flight.end) && (n.number == most)

-- the times of service of those that did
abbrev pub last_times_of : ℕ → List NumberedFlight → List ℕ
last_times_of most ns = filter_map (λ (n : NumberedFlight). time_of_service n.flight) (filter (took_last most) ns)

-- the same of a window's flights
abbrev pub last_times_in_window : Known → List NumberedFlight → List Flight → List ℕ
last_times_in_window known earlier own = last_times_of (most_so_far known earlier own) (earlier ++ numbered_own earlier own)

-- how long a device serves a request, by all times of service and by those of flights that took the last slot, or else as is known
abbrev pub service_by_times : Option ℕ → List ℕ → List ℕ → Option ℕ
service_by_times known all last = if list_any (nat_lt 0) all then Some (mean (if nat_le ENOUGH (length last) then last else all)) else known

-- what is known of a device with that many slots at the window's end
abbrev pub found_in_window : List NumberedFlight → List Flight → Known → ℕ → WindowSlots
found_in_window earlier own known slots = record {
  slots = slots;
  in_flight = most_so_far known earlier own;
  service = service_by_times known.service (times_of_service (flights_in_window earlier own)) (last_times_in_window known earlier own);
  by_last_slot = length (last_times_in_window known earlier own);
}

-- The slots are those of the depth that is given, or the most that were in flight so far, and at least one. A depth below what was
-- in flight is refused.
unfoldable pub slots_in_window : List NumberedFlight → List Flight → Known → Option ℕ → Result WindowSlots SlotsFault
slots_in_window earlier own known depth =
    let most = most_so_far known earlier own in
    let slots = unwrap_or depth (max most 1) in
    if nat_lt slots most then Err (TooFew most) else Ok (found_in_window earlier own known slots)
