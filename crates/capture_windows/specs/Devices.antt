-- what a device had room for in a window
use Rattle.std.specs.Prelude.{◌≡◌, ℕ, ◌+◌, ◌≤◌, ◌==◌, ◌&&◌, ◌||◌, max, min, if◌then◌else◌, IfSome, List, filter, map, length, slice_index, unwrap_or, Option, None, Some, Ok}
use Rattle.slots.specs.declared.flight.Flight.{Flight}
use Rattle.slots.specs.declared.flight.Wait.{Wait}
use Rattle.slots.specs.Gaps.{in_round, spare_starts}
use Rattle.slots.specs.Tallies.{MOST_SPARE}
use Rattle.slots.specs.declared.numbered.NumberedFlight.{NumberedFlight}
use Rattle.slots.specs.Windowed.{flights_in_window, flying, slots_in_window}
use Rattle.slots.specs.declared.flight.End.{End}
use Rattle.slots.specs.declared.flight.End.TheVariants.{Completed, PutBack}
use Rattle.slots.specs.declared.spare.Spare.{Spare}
use Rattle.capture.specs.Timed.{start_of}
use Rattle.capture_windows.specs.Attempts.{Attempt, TimeSpan, before, goes_on, is_request, is_waiting, starts_before, starts_in}
pub use Rattle.capture_windows.specs.declared.device_window.WindowRoom.{WindowRoom}
pub use Rattle.capture_windows.specs.declared.time_span.Rounds.{Rounds}
pub use Rattle.capture_windows.specs.declared.window.KnownDevice.{KnownDevice}

-- the attempts of a device
abbrev pub attempts_of : ℕ → List Attempt → List Attempt
attempts_of device attempts = filter (λ (a : Attempt). a.request.device == device) attempts

-- how a flight ended, by when it was completed and when it was put back. One that is still in flight at a time ends then
abbrev pub end_by : ℕ → Option ℕ → Option ℕ → End
end_by t (Some completed) put_back = Completed completed
end_by t None (Some put_back) = PutBack put_back
end_by t None None = PutBack t

-- an attempt's flight up to a time
abbrev pub flight_until : ℕ → Attempt → Flight
flight_until t a = record { start = start_of a.request; end = end_by t (before t a.request.completed) (before t a.request.retried) }

-- with the number that it has
abbrev pub numbered_until : ℕ → Attempt → NumberedFlight
numbered_until t a = record { flight = flight_until t a; number = a.number }

-- of a device's attempts, the flights that were started before a window, and those that were started in it
abbrev pub earlier_flights : TimeSpan → List Attempt → List NumberedFlight
earlier_flights span attempts = map (numbered_until span.until) (filter (λ (a : Attempt). a.has_slot && starts_before span.from a) attempts)

abbrev pub own_flights : TimeSpan → List Attempt → List Flight
own_flights span attempts = map (flight_until span.until) (filter (λ (a : Attempt). a.has_slot && starts_in span a) attempts)

-- all flights of a device in a window
unfoldable pub flights_at : TimeSpan → List Attempt → ℕ → List Flight
flights_at span attempts device = flights_in_window (earlier_flights span (attempts_of device attempts)) (own_flights span (attempts_of device attempts))

-- how a request waits in a window: from its arrival, which is no earlier than round 1, to its start or the window's end
abbrev pub wait_in : TimeSpan → ℕ → Attempt → Wait
wait_in span begin a = record { arrival = max begin a.request.arrival; start = unwrap_or (before span.until a.request.started) span.until }

-- the waits of a device's requests: of those that were started in the window, and of those that wait at its end
abbrev pub waits_at : TimeSpan → ℕ → List Attempt → ℕ → List Wait
waits_at span begin attempts device = map (wait_in span begin) (filter (λ (a : Attempt). is_request span a || is_waiting span.until a) (attempts_of device attempts))

-- these times are a window's spare starts, in each round and in all
pub record AreSpare (rounds : Rounds) (times : List ℕ) (spare : Spare) : Type 0 where
  pub size : length spare.row.items ≡ rounds.count + 1
  pub rows : (round : ℕ) → round ≤ rounds.count → slice_index spare.row.items round ≡ min MOST_SPARE (in_round rounds.length rounds.begin round times)
  pub total : spare.total ≡ length times

-- spare starts are known if a service time is
abbrev pub IsSpare : Rounds → List Flight → List Wait → ℕ → Option ℕ → Option Spare → Type 0
IsSpare rounds fs ws slots (Some service) (Some spare) = AreSpare rounds (spare_starts fs ws slots service) spare
IsSpare rounds fs ws slots (Some service) None = ⊥
IsSpare rounds fs ws slots None (Some spare) = ⊥
IsSpare rounds fs ws slots None None = Unit {0}

-- what a device had room for, by what was known of it before
pub record IsRoom (span : TimeSpan) (rounds : Rounds) (attempts : List Attempt) (device : ℕ) (known : KnownDevice) (room : WindowRoom) : Type 0 where
  pub slots : slots_in_window (earlier_flights span (attempts_of device attempts)) (own_flights span (attempts_of device attempts)) known.known known.depth ≡ Ok room.slots
  pub spare : IsSpare rounds (flights_at span attempts device) (waits_at span rounds.begin attempts device) room.slots.slots room.slots.service room.spare
  pub service : IfSome room.slots.service (λ t. 1 ≤ t)

-- ---- what goes on

-- an attempt that was started in a window is numbered at its end, by the flights of its device. Any other keeps its number
abbrev pub numbered_in : TimeSpan → List Attempt → Attempt → Attempt
numbered_in span attempts a = if starts_in span a then record a { number = flying (flights_at span attempts a.request.device) (start_of a.request) } else a

-- the attempts that concern later windows, in the order given
abbrev pub going_on : TimeSpan → List Attempt → List Attempt
going_on span attempts = map (numbered_in span attempts) (filter (goes_on span) attempts)
