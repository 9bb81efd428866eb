-- times as rounds
use Rattle.std.specs.Prelude.{ℕ, ◌+◌, ◌-◌, ◌*◌, ◌/◌, ◌==◌, ◌&&◌, max, nat_lt, nat_le, if◌then◌else◌, List, map, slice_get, Option, Some, None, option_and_then}
use Rattle.std.specs.Option.{option_map_or, option_or}
pub use Rattle.recording_file.specs.declared.span.Span.{Span}
use Rattle.recording_file.specs.declared.span.TimeUnit.{TimeUnit}
use Rattle.recording_file.specs.declared.span.TimeUnit.TheVariants as time
use Rattle.recording_file.specs.declared.request.Request.{Request}
use Rattle.capture.specs.Timed.{TimedRequest, started, start_of, most_of}

abbrev pub unit_nanoseconds : TimeUnit → ℕ
unit_nanoseconds time.Nanosecond = 1
unit_nanoseconds time.Microsecond = 1000
unit_nanoseconds time.Millisecond = 1000000
unit_nanoseconds time.Second = 1000000000

-- how many nanoseconds a span has
abbrev pub span_nanoseconds : Span → ℕ
span_nanoseconds s = s.count * unit_nanoseconds s.unit

-- a number of nanoseconds as a whole number of a unit, from 1 up to the most that a count says, and none where it isn't
unfoldable pub span_in : ℕ → TimeUnit → Option Span
span_in nanoseconds unit =
    let count = nanoseconds / unit_nanoseconds unit in
    if (count * unit_nanoseconds unit == nanoseconds) && (nat_lt 0 count && nat_le count 4294967295) then Some (record { count = count; unit = unit })
    else None

-- the span of that many nanoseconds, in the coarsest unit that has it
unfoldable pub span_of : ℕ → Option Span
span_of nanoseconds = option_or (span_in nanoseconds time.Second) (option_or (span_in nanoseconds time.Millisecond) (option_or (span_in nanoseconds time.Microsecond) (span_in nanoseconds time.Nanosecond)))

-- the round of a time, where round 1 begins at that time and each has that many nanoseconds
abbrev pub round_at : ℕ → ℕ → ℕ → ℕ
round_at span begin t = 1 + (t - begin) / span

-- when the first of these arrives, and 0 where there is none
abbrev pub first_arrival : List TimedRequest → ℕ
first_arrival qs = option_map_or (λ (q : TimedRequest). q.arrival) (slice_get qs 0) 0

-- how many rounds there are up to the last start of one of these
abbrev pub rounds_of : ℕ → List TimedRequest → ℕ
rounds_of span qs = round_at span (first_arrival qs) (most_of start_of qs)

-- a last round as a request has it: none where it is the last of all
abbrev pub unless_end : ℕ → ℕ → Option ℕ
unless_end rounds last = if nat_lt last rounds then Some last else None

-- the last round of a request that was started in this one: the round before that in which its next attempt arrives, but no
-- earlier than its start
abbrev pub last_round : ℕ → ℕ → ℕ → ℕ → Option ℕ → Option ℕ
last_round span begin rounds sent retried = option_and_then (λ t. unless_end rounds (max sent (round_at span begin t - 1))) retried

-- the round of a completion, if a recording can say it
unfoldable pub done_round : ℕ → ℕ → ℕ → Option ℕ
done_round span begin t = if nat_le (round_at span begin t) 4294967295 then Some (round_at span begin t) else None

-- a started request in rounds
unfoldable pub request_in : ℕ → ℕ → ℕ → TimedRequest → Request
request_in span begin rounds q = record {
  driver = q.driver;
  device = q.device;
  priority = q.priority;
  arrival = round_at span begin q.arrival;
  last = last_round span begin rounds (round_at span begin (start_of q)) q.retried;
  sent = round_at span begin (start_of q);
  done = option_and_then (done_round span begin) q.completed;
}

-- what a capture has in rounds: how long one is, the last one, and the requests
pub record Rounded : Type 0 where
  pub unit : Span
  pub rounds : ℕ
  pub requests : List Request

-- started requests, by arrival, in rounds
abbrev pub rounded : Span → List TimedRequest → Rounded
rounded unit qs =
    let span = span_nanoseconds unit in
    record {
      unit = unit;
      rounds = rounds_of span qs;
      requests = map (request_in span (first_arrival qs) (rounds_of span qs)) qs;
    }

-- a capture's requests in rounds: those that were started, by arrival
abbrev pub in_rounds : Span → List TimedRequest → Rounded
in_rounds unit qs = rounded unit (started qs)

-- requests that were started, by arrival, in that many rounds, of which the first begins at that time
abbrev pub rounds_from : Span → ℕ → ℕ → List TimedRequest → Rounded
rounds_from unit begin rounds qs = record {
  unit = unit;
  rounds = rounds;
  requests = map (request_in (span_nanoseconds unit) begin rounds) (started qs);
}
