-- what the events so far say of each CCB
use Rattle.std.specs.Prelude.{ℕ, Bool, not, List, map, Option, None, count_by, if◌then◌else◌, option_map}
use Rattle.std.specs.List.{list_any}
use Rattle.xpt_core.specs.Words.{ends, is_requeue_of, submission, ccbs, is_in_flight, is_recovering, last_result, counted_requeues, Event, Submission}
use Rattle.xpt_core.specs.Change.{Ccb}

-- no event ended the CCB
abbrev pub is_alive : List Event → ℕ → Bool
is_alive events ccb = not (list_any (ends ccb) events)

-- what is known of a CCB that was submitted so
abbrev pub ccb_by : List Event → ℕ → Submission → Ccb
ccb_by events ccb submission = record {
  submission = submission;
  in_flight = is_in_flight events ccb;
  recovering = is_recovering events ccb;
  outcome = last_result events ccb;
  counted = counted_requeues events ccb;
  attempt = count_by (is_requeue_of ccb) events;
}

-- what is known of a CCB that was submitted and hasn't ended
unfoldable pub alive_ccb : List Event → ℕ → Option Ccb
alive_ccb events ccb = if is_alive events ccb then option_map (ccb_by events ccb) (submission events ccb) else None

-- the same of each CCB, by number
unfoldable pub rows : List Event → List (Option Ccb)
rows events = map (alive_ccb events) (ccbs events)
