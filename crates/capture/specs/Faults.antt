-- why there is no recording of a capture
use Rattle.std.specs.Prelude.{ℕ, ◌≤◌, ◌==◌, Bool, nat_lt, ◌&&◌, not, if◌then◌else◌, List, length, count_by, find, Option, Some, None, option_map, All, IfSome, false}
use Rattle.std.specs.List.{range_with_len}
use Rattle.std.specs.Option.{option_or, option_map_or}
use Rattle.cam_types.specs.Lists.{prefixed, first_answer}
use Rattle.cam_types.specs.Topology.{Topology}
use Rattle.cam_types.specs.Questions.{names_device}
use Rattle.cam_types.specs.declared.limits.TheConstants.{MAX_PRIORITY}
use Rattle.recording_file.specs.Counts.{counts_of}
use Rattle.recording_file.specs.Names.{NameValue, is_name}
use Rattle.recording_file.specs.Recorded.{last_of}
use Rattle.recording_file.specs.declared.limits.TheConstants.{MAX_RECORDED_ROUNDS, MAX_REQUESTS}
use Rattle.recording_file.specs.declared.request.Request.{Request}
use Rattle.capture.specs.Timed.{TimedRequest, is_started, start_of, most_of, started}
use Rattle.capture.specs.Rounds.{Rounded, Span, in_rounds, rounds_from, round_at, span_nanoseconds}
pub use Rattle.capture.specs.declared.capture_fault.CaptureFault.{CaptureFault}
pub use Rattle.capture.specs.declared.capture_fault.CaptureFault.TheVariants.{BadPriority, StartedEarly, EndedEarly, NothingStarted, TooManyRequests, TooManyRounds, TooManyInRound, NoDevice, BadName, OutOfMemory}
use Rattle.capture.specs.declared.capture_fault.TheConstants.{MAX_IN_ROUND}

-- it was started before it arrived
abbrev pub is_early : TimedRequest → Bool
is_early q = is_started q && nat_lt (start_of q) q.arrival

-- it was completed before it was started
abbrev pub is_ended_early : TimedRequest → Bool
is_ended_early q = is_started q && option_map_or (λ t. nat_lt t (start_of q)) q.completed false

-- why a request, by its number among the others, can't be one of a capture
unfoldable pub request_fault : List TimedRequest × TimedRequest → Option CaptureFault
request_fault m =
    if nat_lt MAX_PRIORITY m.1.priority then Some (BadPriority (length m.0))
    else if is_early m.1 then Some (StartedEarly (length m.0))
    else if is_ended_early m.1 then Some (EndedEarly (length m.0))
    else None

-- why that many started requests can't be recorded in that many rounds
unfoldable pub size_fault : ℕ → ℕ → Option CaptureFault
size_fault requests rounds =
    if requests == 0 then Some NothingStarted
    else if nat_lt MAX_REQUESTS requests then Some (TooManyRequests requests)
    else if nat_lt MAX_RECORDED_ROUNDS rounds then Some (TooManyRounds rounds)
    else None

-- how many of the requests were started in a round
abbrev pub starts_in : List Request → ℕ → ℕ
starts_in qs round = count_by (λ (q : Request). q.sent == round) qs

-- more were started in a round than a cap can say
abbrev pub is_crowded : List Request → ℕ → Bool
is_crowded qs round = nat_lt MAX_IN_ROUND (starts_in qs round)

-- the first such round, and how many were started in it
unfoldable pub crowd_fault : Rounded → Option CaptureFault
crowd_fault r = option_map (λ round. TooManyInRound round (starts_in r.requests round)) (find (is_crowded r.requests) (range_with_len 1 r.rounds))

-- the first reason why requests in time are not a capture
abbrev pub capture_fault : Span → List TimedRequest → Option CaptureFault
capture_fault unit qs =
    let r = in_rounds unit qs in
    option_or (first_answer request_fault (prefixed qs)) (option_or (size_fault (length r.requests) r.rounds) (crowd_fault r))

-- why that many started requests can't be recorded in that many rounds, where the last start is in that round
unfoldable pub late_fault : ℕ → ℕ → ℕ → Option CaptureFault
late_fault rounds requests last =
    if nat_lt MAX_REQUESTS requests then Some (TooManyRequests requests)
    else if nat_lt rounds last then Some (TooManyRounds last)
    else None

-- the first reason why requests in time are not a capture of that many rounds from that time on
abbrev pub rounds_fault : Span → ℕ → ℕ → List TimedRequest → Option CaptureFault
rounds_fault unit begin rounds qs =
    option_or (first_answer request_fault (prefixed qs)) (option_or (late_fault rounds (length (started qs)) (round_at (span_nanoseconds unit) begin (most_of start_of (started qs)))) (crowd_fault (rounds_from unit begin rounds qs)))

-- a request of a capture of that many rounds
pub record IsInRounds (rounds : ℕ) (q : Request) : Type 0 where
  pub priority : q.priority ≤ MAX_PRIORITY
  pub first : 1 ≤ q.arrival
  pub arrived : q.arrival ≤ q.sent
  pub within : q.sent ≤ last_of rounds q
  pub last : last_of rounds q ≤ rounds
  pub done : IfSome q.done (λ n. q.sent ≤ n)

-- what a capture keeps
pub record IsCapture (r : Rounded) : Type 0 where
  pub unit : 1 ≤ r.unit.count
  pub some : 1 ≤ r.rounds
  pub rounds : r.rounds ≤ MAX_RECORDED_ROUNDS
  pub many : length r.requests ≤ MAX_REQUESTS
  pub requests : All (IsInRounds r.rounds) r.requests
  pub crowds : (round : ℕ) → 1 ≤ round → round ≤ r.rounds → starts_in r.requests round ≤ MAX_IN_ROUND

-- a device that isn't there
unfoldable pub device_fault : Topology → List Request → Option CaptureFault
device_fault c qs = option_map (λ (q : Request). NoDevice q.device) (find (λ (q : Request). not (names_device c q.device)) qs)

-- a name that may not come after those before it
unfoldable pub name_fault : Topology → List NameValue × NameValue → Option CaptureFault
name_fault c m = if is_name (counts_of c) m then None else Some (BadName (length m.0))

-- the first reason why there is no recording of a capture with this configuration and these names
abbrev pub recording_fault : Topology → List NameValue → Rounded → Option CaptureFault
recording_fault c names r = option_or (device_fault c r.requests) (first_answer (name_fault c) (prefixed names))
