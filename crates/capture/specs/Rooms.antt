-- what devices had room for
use Rattle.std.specs.Prelude.{◌≡◌, ℕ, ◌==◌, ◌≤◌, min, List, map, filter, length, slice_index}
use Rattle.slots.specs.declared.flight.Flight.{Flight}
use Rattle.slots.specs.declared.flight.Wait.{Wait}
use Rattle.slots.specs.Gaps.{spare_starts, in_round}
use Rattle.slots.specs.declared.found.Slots.{Slots}
use Rattle.slots.specs.declared.tally.TheConstants.{MOST_SPARE}
use Rattle.capture.specs.Timed.{TimedRequest, started, start_of}
use Rattle.capture.specs.Rounds.{Span, span_nanoseconds, first_arrival, rounds_of}
pub use Rattle.capture.specs.declared.device_flight.DeviceFlight.{DeviceFlight}
pub use Rattle.capture.specs.declared.room.Room.{Room}

-- the flights of a device
abbrev pub flights_of : List DeviceFlight → ℕ → List Flight
flights_of fs device = map (λ (f : DeviceFlight). f.flight) (filter (λ (f : DeviceFlight). f.device == device) fs)

-- the wait of a started request
abbrev pub wait_of : TimedRequest → Wait
wait_of q = record { arrival = q.arrival; start = start_of q }

-- the waits of a device's requests, which were started
abbrev pub waits_of : List TimedRequest → ℕ → List Wait
waits_of qs device = map wait_of (filter (λ (q : TimedRequest). q.device == device) qs)

-- the times at which a device with these slots had room for a start
abbrev pub spare_times : List TimedRequest → List DeviceFlight → ℕ → Slots → List ℕ
spare_times qs fs device s = spare_starts (flights_of fs device) (waits_of (started qs) device) s.slots s.service

-- how many starts a device with these slots had room for, in all and in each round of that span
pub record IsRoom (unit : Span) (qs : List TimedRequest) (fs : List DeviceFlight) (device : ℕ) (room : Room) : Type 0 where
  pub rows : (round : ℕ) → round ≤ rounds_of (span_nanoseconds unit) (started qs) → slice_index room.spare.row.items round ≡ min MOST_SPARE (in_round (span_nanoseconds unit) (first_arrival (started qs)) round (spare_times qs fs device room.slots))
  pub total : room.spare.total ≡ length (spare_times qs fs device room.slots)
