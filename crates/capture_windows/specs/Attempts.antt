-- what is known of attempts at a time, and which of them concern a window
use Rattle.std.specs.Prelude.{ℕ, Bool, false, not, nat_le, nat_lt, ◌&&◌, ◌||◌, if◌then◌else◌, List, filter, map, Option, None, Some}
use Rattle.capture.specs.declared.timed_request.TimedRequest.{TimedRequest}
use Rattle.capture.specs.Timed.{by_arrival}
pub use Rattle.capture_windows.specs.declared.attempt.Attempt.{Attempt}
pub use Rattle.capture_windows.specs.declared.time_span.TimeSpan.{TimeSpan}

-- ---- known at a time is what happened before it

abbrev pub is_before : ℕ → Option ℕ → Bool
is_before t None = false
is_before t (Some s) = nat_lt s t

abbrev pub before : ℕ → Option ℕ → Option ℕ
before t None = None
before t (Some s) = if nat_lt s t then Some s else None

abbrev pub known_at : ℕ → TimedRequest → TimedRequest
known_at t q = record q { started = before t q.started; retried = before t q.retried; completed = before t q.completed }

-- ---- when an attempt was started

abbrev pub starts_before : ℕ → Attempt → Bool
starts_before t a = is_before t a.request.started

abbrev pub is_within : ℕ → ℕ → Option ℕ → Bool
is_within from until None = false
is_within from until (Some s) = nat_le from s && nat_lt s until

abbrev pub starts_in : TimeSpan → Attempt → Bool
starts_in span a = is_within span.from span.until a.request.started

-- it was put back or completed before a time
abbrev pub is_over : ℕ → Attempt → Bool
is_over t a = is_before t a.request.completed || is_before t a.request.retried

-- ---- the requests of a window

-- one was started in it
abbrev pub is_request : TimeSpan → Attempt → Bool
is_request span a = a.is_taken && starts_in span a

-- one waits at a time: it arrived before it, and wasn't started before it
abbrev pub is_waiting : ℕ → Attempt → Bool
is_waiting t a = a.is_taken && (nat_lt a.request.arrival t && not (starts_before t a))

abbrev pub request_of : Attempt → TimedRequest
request_of a = a.request

-- those that were started in a span, in the order given
abbrev pub started_in : TimeSpan → List Attempt → List TimedRequest
started_in span attempts = map request_of (filter (is_request span) attempts)

-- the same by arrival, as they are known at its end
abbrev pub requests_in : TimeSpan → List Attempt → List TimedRequest
requests_in span attempts = by_arrival (map (known_at span.until) (started_in span attempts))

-- those that wait at a time, as they are known then
abbrev pub waiting_at : ℕ → List Attempt → List TimedRequest
waiting_at t attempts = map (known_at t) (map request_of (filter (is_waiting t) attempts))

-- ---- which attempts concern later windows

-- those that aren't started yet, and those that were started in this window and are in flight at its end
abbrev pub goes_on : TimeSpan → Attempt → Bool
goes_on span a = not (starts_before span.until a) || (starts_in span a && not (is_over span.until a))
