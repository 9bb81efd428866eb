-- how long rounds may be
use Rattle.std.specs.Prelude.{ℕ, ◌+◌, ◌-◌, ◌*◌, ◌/◌, ◌==◌, nat_le, if◌then◌else◌, List, length, filter, Option, Some, None, option_and_then, unwrap_or, count_by, not, max, ◌&&◌, ◌||◌}
use Rattle.std.specs.List.{sum_by, range_with_len}
use Rattle.recording_file.specs.declared.limits.TheConstants.{MAX_RECORDED_ROUNDS}
use Rattle.capture.specs.Rounds.{Span, first_arrival, span_nanoseconds}
use Rattle.capture.specs.Spans.{span_within, span_from}
use Rattle.capture.specs.Timed.{TimedRequest, is_started, start_of, most_of, started}

-- how many never started
abbrev pub left_out : List TimedRequest → ℕ
left_out qs = count_by (λ q. not (is_started q)) qs

-- how long a started request waited
abbrev pub wait_of : TimedRequest → ℕ
wait_of q = start_of q - q.arrival

-- half of the mean wait of the started requests
unfoldable pub longest_round : List TimedRequest → Option ℕ
longest_round qs =
    let taken = filter is_started qs in
    if length taken == 0 then None else Some (sum_by wait_of taken / (2 * length taken))

-- how many requests of a device were started
abbrev pub starts_on : List TimedRequest → ℕ → ℕ
starts_on qs device = count_by (λ (q : TimedRequest). is_started q && (q.device == device)) qs

-- how many of the busiest of that many devices were
abbrev pub max_starts : List TimedRequest → ℕ → ℕ
max_starts qs devices = most_of (starts_on qs) (range_with_len 0 devices)

-- from the first arrival of a started request to the last start
abbrev pub whole_time : List TimedRequest → ℕ
whole_time qs = most_of start_of (started qs) - first_arrival (started qs)

-- the shortest round that keeps to the rounds that a recording may have
abbrev pub shortest_round : List TimedRequest → ℕ
shortest_round qs = whole_time qs / MAX_RECORDED_ROUNDS + 1

-- the mean time from a start of the busiest device to its next, but no shorter than the shortest round
abbrev pub usual_time : List TimedRequest → ℕ → ℕ
usual_time qs devices = max (whole_time qs / max (max_starts qs devices) 1) (shortest_round qs)

-- half of the mean wait, and 0 if nothing was started
abbrev pub half_wait : List TimedRequest → ℕ
half_wait qs = unwrap_or (longest_round qs) 0

-- a span, if it is at least so many nanoseconds long
abbrev pub if_from : ℕ → Option Span → Option Span
if_from least s = option_and_then (λ (t : Span). if nat_le least (span_nanoseconds t) then Some t else None) s

-- the round by the usual time, the shortest round and half of the mean wait: the usual time, if it is no longer than that half or
-- nobody waits; else that half, if it is no shorter than the shortest round
unfoldable pub round_by : ℕ → ℕ → ℕ → Option Span
round_by usual shortest half =
    if (half == 0) || nat_le (span_nanoseconds (span_from usual)) half then Some (span_from usual)
    else if_from shortest (span_within half)

-- the round where none is given; none if each that is no longer than half of the mean wait makes more rounds than a recording has
abbrev pub usual_round : List TimedRequest → ℕ → Option Span
usual_round qs devices = round_by (usual_time qs devices) (shortest_round qs) (half_wait qs)
