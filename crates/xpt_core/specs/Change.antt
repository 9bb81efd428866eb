-- what an event makes of a row
use Rattle.std.specs.Prelude.{ℕ, ◌+◌, ◌-◌, ◌^◌, ◌<◌, Bool, false, ◌&&◌, List, Option, Some, None, if◌then◌else◌, slice_get, slice_set}
use Rattle.std.specs.Option.{option_map, option_map_or}
use Rattle.xpt_core.specs.Words.{kind_of, is_counted, classify, is_some_and, is_send_of, is_done_of, is_send_or_done_of, is_requeue_of, concerns, outcome_of, is_erring, ends, Event, Submission}
use Rattle.sense_class.specs.declared.class.Class as class
pub use Rattle.xpt_core.specs.declared.ccbs.ccb.Ccb.{Ccb}

-- a CCB that was submitted just now
abbrev pub fresh : Submission → Ccb
fresh submission = record { submission = submission; in_flight = false; recovering = false; outcome = None; counted = 0; attempt = 0 }

-- a requeue after its last result counts as a retry
abbrev pub counts : Ccb → Bool
counts r = is_some_and (λ o. is_counted (kind_of o)) r.outcome

-- the class of its last result
abbrev pub class_of_row : Ccb → Option class.Class
class_of_row r = option_map (λ o. classify o r.counted r.submission.retries) r.outcome

-- the CCB of this number after the event
abbrev pub next_ccb : ℕ → Event → Ccb → Ccb
next_ccb ccb event r = record {
  submission = r.submission;
  in_flight = if is_send_or_done_of ccb event then is_send_of ccb event else r.in_flight;
  recovering = if concerns ccb event then is_erring event else r.recovering;
  outcome = if is_done_of ccb event then outcome_of event else r.outcome;
  counted = r.counted + (if is_requeue_of ccb event && counts r then 1 else 0);
  attempt = r.attempt + (if is_requeue_of ccb event then 1 else 0);
}

-- the same where the event may end it
abbrev pub next_row : ℕ → Event → Option Ccb → Option Ccb
next_row ccb event None = None
next_row ccb event (Some r) = if ends ccb event then None else Some (next_ccb ccb event r)

-- the rows, where the event concerns the CCB of this number
abbrev pub updated_at : Event → List (Option Ccb) → ℕ → List (Option Ccb)
updated_at event rows ccb = option_map_or (λ r. slice_set rows ccb (next_row ccb event r)) (slice_get rows ccb) rows

-- the counters of a row have room for one more
abbrev pub IsSmall : Option Ccb → Type 0
IsSmall None = Unit {0}
IsSmall (Some r) = (r.counted < 2 ^ 32 - 1) × (r.attempt < 2 ^ 32 - 1)
