-- two windows, one after the other
use Rattle.std.specs.Prelude.{◌≡◌, ℕ, ◌≤◌, Bool, false, not, ◌&&◌, All, List, [], ◌∷◌, ◌++◌}
use Rattle.std.specs.List.{flat_map}
use Rattle.slots.specs.declared.numbered.NumberedFlight.{NumberedFlight}
use Rattle.slots.specs.Windowed.{flying}
use Rattle.capture.specs.declared.timed_request.TimedRequest.{TimedRequest}
use Rattle.capture.specs.Timed.{start_of}
use Rattle.capture_windows.specs.Attempts.{Attempt, TimeSpan, is_over, started_in, starts_before, starts_in}
use Rattle.capture_windows.specs.Devices.{flight_until, flights_at, going_on}

-- the span of both
abbrev pub whole_span : TimeSpan → TimeSpan → TimeSpan
whole_span first second = record { from = first.from; until = second.until }

-- an attempt was started in a window, and holds its slot at its end
abbrev pub flies_past : TimeSpan → Attempt → Bool
flies_past window a = a.has_slot && (starts_in window a && not (is_over window.until a))

-- its flight in the second window, with the number of those that were in flight in the first one when it was started
abbrev pub flight_after : TimeSpan → TimeSpan → List Attempt → Attempt → NumberedFlight
flight_after first second attempts a = record { flight = flight_until second.until a; number = flying (flights_at first attempts a.request.device) (start_of a.request) }

-- ---- many windows

-- a window, and the attempts that were read since the one before
pub record Read : Type 0 where
  pub window : TimeSpan
  pub attempts : List Attempt

-- what is taken by one window after the other, each of what goes on from the one before and of what was read since
abbrev pub taken_by : List Attempt → List Read → List TimedRequest
taken_by kept [] = []
taken_by kept (r ∷ reads) = started_in r.window (kept ++ r.attempts) ++ taken_by (going_on r.window (kept ++ r.attempts)) reads

-- all that was read
abbrev pub all_read : List Read → List Attempt
all_read reads = flat_map (λ (r : Read). r.attempts) reads

-- the windows are next to each other, from a time until another, and what was read late was started late
abbrev pub AreInTurn : ℕ → List Read → ℕ → Type 0
AreInTurn from [] until = from ≡ until
AreInTurn from (r ∷ reads) until = (r.window.from ≡ from) × (from ≤ r.window.until) × All (λ (a : Attempt). starts_before from a ≡ false) r.attempts × AreInTurn r.window.until reads until

abbrev pub span_between : ℕ → ℕ → TimeSpan
span_between from until = record { from = from; until = until }
