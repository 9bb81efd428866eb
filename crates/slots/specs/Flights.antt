-- the flights of a device: how many there are at a time, and how long they take
use Rattle.std.specs.Prelude.{ℕ, ◌+◌, ◌-◌, ◌/◌, ◌==◌, Bool, not, nat_le, nat_lt, ◌&&◌, max, if◌then◌else◌, List, [], ◌∷◌, length, map, filter, sum, Option, Some, None, unwrap_or, Result, Ok, Err}
use Rattle.std.specs.List.{filter_map, list_any}
use Rattle.slots.specs.Spans.{Span, covering}
pub use Rattle.slots.specs.declared.flight.Flight.{Flight}
use Rattle.slots.specs.declared.flight.End.{End}
use Rattle.slots.specs.declared.flight.End.TheVariants.{Completed, PutBack, Unknown}
use Rattle.slots.specs.declared.found.Slots.{Slots}
use Rattle.slots.specs.declared.slots_fault.SlotsFault.{SlotsFault}
use Rattle.slots.specs.declared.slots_fault.SlotsFault.TheVariants.{TooFew}

-- from a start to a completion, and none without one
abbrev pub served_from : ℕ → End → Option ℕ
served_from start (Completed t) = Some (t - start)
served_from start (PutBack t) = None
served_from start Unknown = None

-- the time of service of a flight that was completed
abbrev pub time_of_service : Flight → Option ℕ
time_of_service f = served_from f.start f.end

-- those of all flights that were
abbrev pub times_of_service : List Flight → List ℕ
times_of_service fs = filter_map time_of_service fs

-- slots can be seen if one of these is above 0
abbrev pub can_be_seen : List Flight → Bool
can_be_seen fs = list_any (nat_lt 0) (times_of_service fs)

-- the mean of that many times with this sum, rounded up, and 0 of none
unfoldable pub mean_of : ℕ → ℕ → ℕ
mean_of sum count = (sum + (count - 1)) / max count 1

-- the mean of times
abbrev pub mean : List ℕ → ℕ
mean times = mean_of (sum times) (length times)

-- when a flight ends: when it was completed or put back, or else after the usual time
abbrev pub end_after : ℕ → ℕ → End → ℕ
end_after usual start (Completed t) = t
end_after usual start (PutBack t) = t
end_after usual start Unknown = start + usual

-- the span in which it holds its slot
abbrev pub span_held : ℕ → Flight → Span
span_held usual f = record { from = f.start; until = end_after usual f.start f.end }

-- the usual time is the mean of all times of service
abbrev pub usual_time : List Flight → ℕ
usual_time fs = mean (times_of_service fs)

-- the spans in which flights hold their slots
abbrev pub spans_held : List Flight → List Span
spans_held fs = map (span_held (usual_time fs)) fs

-- how many are in flight at a time
abbrev pub in_flight : List Flight → ℕ → ℕ
in_flight fs t = covering (spans_held fs) t

-- the greatest of numbers, and 0 of none
abbrev pub greatest : List ℕ → ℕ
greatest [] = 0
greatest (n ∷ ns) = max n (greatest ns)

-- the most that are in flight at one time: at a start, since there are no more before the next one
abbrev pub most : List Flight → ℕ
most fs = greatest (map (λ f. in_flight fs f.start) fs)

-- a flight took the last slot: when it was started, the most were in flight, and it was one of them
abbrev pub takes_last_by : ℕ → (Flight → ℕ) → ℕ → Flight → Bool
takes_last_by usual number most f = nat_lt f.start (end_after usual f.start f.end) && (number f == most)

-- the same of a device's flights
abbrev pub takes_last : List Flight → Flight → Bool
takes_last fs = takes_last_by (usual_time fs) (λ f. in_flight fs f.start) (most fs)

-- the time of service of one that did, if the most were in flight when it was started
abbrev pub last_time : ℕ → Flight → Bool → Option ℕ
last_time usual f are_most = if nat_lt f.start (end_after usual f.start f.end) && are_most then time_of_service f else None

-- the times of service of those that took it
abbrev pub last_times : List Flight → List ℕ
last_times fs = times_of_service (filter (takes_last fs) fs)

-- with fewer flights that took the last slot, all flights count
abbrev pub ENOUGH : ℕ
ENOUGH = 16

-- how long a device serves a request: by the flights that took the last slot if they are enough, or else by all
abbrev pub service_time : List Flight → ℕ
service_time fs = mean (if nat_le ENOUGH (length (last_times fs)) then last_times fs else times_of_service fs)

-- what is found of a device with that many slots
abbrev pub found : List Flight → ℕ → Slots
found fs slots = record { slots = slots; in_flight = most fs; service = service_time fs; by_last_slot = length (last_times fs) }

-- The slots of a device are those of the depth that is given, or the most that are in flight. A depth below that is refused. None if
-- they can't be seen.
unfoldable pub slots_of : List Flight → Option ℕ → Result (Option Slots) SlotsFault
slots_of fs depth =
    if not (can_be_seen fs) then Ok None
    else if nat_lt (unwrap_or depth (most fs)) (most fs) then Err (TooFew (most fs))
    else Ok (Some (found fs (unwrap_or depth (most fs))))
