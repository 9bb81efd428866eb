-- what holds at a place, by the events before it
use Rattle.std.specs.Prelude.{ℕ, ◌+◌, ◌-◌, ◌==◌, Bool, not, ◌&&◌, List, length, Option, None, slice_get, count_by, sum_by, find, reverse, option_and_then}
use Rattle.std.specs.List.{list_any, filter_map, range_with_len}
use Rattle.std.specs.Option.{option_map, option_map_or}
use Rattle.cam_types.specs.Lists.{prefixed}
use Rattle.cam_types.specs.declared.outcome.Outcome.{Outcome}
use Rattle.sense_class.specs.Classes.{kind_of, is_counted, classify, asks_requeue, asks_finish}
use Rattle.event_rules.specs.Event.{is_some_and, is_tick, submission_of, is_send_of, is_done_of, is_send_or_done_of, is_requeue_of, concerns, outcome_of, is_erring, ends, freezes, releases, sim_freezes, is_sim_release_of, Event, Send}
pub use Rattle.event_rules.specs.declared.submission.Submission.{Submission}
pub use Rattle.event_rules.specs.declared.sending.Sending.{Sending}

-- the place's round, the first of which is 1
unfoldable pub round : List Event → ℕ
round events = 1 + count_by is_tick events

-- the submissions in order: a CCB's number is the count of those before it
unfoldable pub submissions : List Event → List Submission
submissions events = filter_map submission_of events

-- how many CCBs were submitted
abbrev pub commands : List Event → ℕ
commands events = length (submissions events)

-- what was submitted as this CCB
abbrev pub submission : List Event → ℕ → Option Submission
submission events ccb = slice_get (submissions events) ccb

-- the last event that passes the test
abbrev pub last : (Event → Bool) → List Event → Option Event
last test events = find test (reverse events)

-- the last of the CCB's sends and completions is a send
unfoldable pub is_in_flight : List Event → ℕ → Bool
is_in_flight events ccb = is_some_and (is_send_of ccb) (last (is_send_or_done_of ccb) events)

-- the numbers of the CCBs
abbrev pub ccbs : List Event → List ℕ
ccbs events = range_with_len 0 (commands events)

-- some CCB is in flight
unfoldable pub has_in_flight : List Event → Bool
has_in_flight events = list_any (is_in_flight events) (ccbs events)

-- of what concerns the CCB the last is a completion that errs
unfoldable pub is_recovering : List Event → ℕ → Bool
is_recovering events ccb = is_some_and is_erring (last (concerns ccb) events)

-- how many CCBs are alive: none of their completions was good, and they weren't finished
unfoldable pub alive : List Event → ℕ
alive events = count_by (λ ccb. not (list_any (ends ccb) events)) (ccbs events)

-- the CCB's last result
unfoldable pub last_result : List Event → ℕ → Option Outcome
last_result events ccb = option_and_then outcome_of (last (is_done_of ccb) events)

-- a requeue of the CCB after a result that counts
abbrev pub is_counted_requeue : ℕ → List Event × Event → Bool
is_counted_requeue ccb (before, event) =
    is_requeue_of ccb event && is_some_and (λ o. is_counted (kind_of o)) (last_result before ccb)

unfoldable pub counted_requeues : List Event → ℕ → ℕ
counted_requeues events ccb = count_by (is_counted_requeue ccb) (prefixed events)

abbrev pub retries_of : List Event → ℕ → ℕ
retries_of events ccb = option_map_or (λ (s : Submission). s.retries) (submission events ccb) 0

-- the class of the CCB's last result asks for a requeue, or for a finish
unfoldable pub wants_requeue : List Event → ℕ → Bool
wants_requeue events ccb =
    is_some_and (λ o. asks_requeue (classify o (counted_requeues events ccb) (retries_of events ccb))) (last_result events ccb)

unfoldable pub wants_finish : List Event → ℕ → Bool
wants_finish events ccb =
    is_some_and (λ o. asks_finish (classify o (counted_requeues events ccb) (retries_of events ccb))) (last_result events ccb)

-- the send that an event is, after the events before it
abbrev pub sending_of : List Event × Event → Option Sending
sending_of (before, Send lane ccb) = option_map (λ (s : Submission). record {
  device = s.device;
  qfreeze = s.flags.qfreeze;
  round = round before;
  place = length before;
}) (submission before ccb)
sending_of (before, _) = None

-- all sends, in order
unfoldable pub sendings : List Event → List Sending
sendings events = filter_map sending_of (prefixed events)

-- a send to the device, and one that freezes it
abbrev pub goes_to : ℕ → Sending → Bool
goes_to d s = s.device == d

abbrev pub freezes_by_send : ℕ → Sending → Bool
freezes_by_send d s = goes_to d s && s.qfreeze

-- a device's freezes by callers: those added, and one for each send with QFREEZE, less those taken away
unfoldable pub caller_count : List Event → ℕ → ℕ
caller_count events d =
    sum_by (freezes d) events + count_by (freezes_by_send d) (sendings events) - sum_by (releases d) events

-- the CCB is recovering, is the device's, and doesn't ask to leave the device alone
abbrev pub freezes_by_error : List Event → ℕ → ℕ → Bool
freezes_by_error events d ccb =
    is_recovering events ccb && is_some_and (λ (s : Submission). (s.device == d) && not s.flags.qfrzdis) (submission events ccb)

-- a device's freezes by errors
unfoldable pub error_count : List Event → ℕ → ℕ
error_count events d = count_by (freezes_by_error events d) (ccbs events)

-- a device's freezes
abbrev pub freeze_count : List Event → ℕ → ℕ
freeze_count events d = caller_count events d + error_count events d

-- an adapter's freezes
unfoldable pub adapter_freezes : List Event → ℕ → ℕ
adapter_freezes events a = sum_by (sim_freezes a) events - count_by (is_sim_release_of a) events
