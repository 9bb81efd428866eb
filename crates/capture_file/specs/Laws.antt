-- what holds of each event
use Rattle.std.specs.Prelude.{◌≡◌, ℕ, ◌==◌, ◌⊎◌, false, if◌then◌else◌, List, [], ◌∷◌, Option, None, is_some, IfSome}
use Rattle.capture_file.specs.declared.attempt.Place.{Place}
use Rattle.capture_file.specs.declared.attempt.Sent.{Sent}
use Rattle.capture_file.specs.declared.attempt.Tag.{Tag}
use Rattle.capture_file.specs.States.{start_of, is_waiting}
use Rattle.capture_file.specs.Attempts.{Attempt, first_waiting, newest_at}
use Rattle.capture_file.specs.Events.{Known, waiting_behind, after_arrival, after_merge_back, after_merge_front, after_start, after_issue, after_put_back, after_completion}

pub data Event : Type 0 where
  Arrival : Place → ℕ → Tag → Event
  MergeBack : Place → Event
  MergeFront : Place → Option Place → Event
  Start : Place → Sent → ℕ → Event
  Issue : Place → Sent → ℕ → Tag → Event
  PutBack : Place → Sent → ℕ → Event
  Completion : Place → Sent → ℕ → Event

abbrev pub after : Event → Known → Known
after (Arrival place time tag) k = after_arrival place time tag k
after (MergeBack place) k = after_merge_back place k
after (MergeFront place behind) k = after_merge_front place behind k
after (Start place sent time) k = after_start place sent time k
after (Issue place sent time tag) k = after_issue place sent time tag k
after (PutBack place sent time) k = after_put_back place sent time k
after (Completion place sent time) k = after_completion place sent time k

-- the one that is merged, or ends without a start
abbrev pub gone : Event → Known → Option Attempt
gone (Arrival place time tag) k = None
gone (MergeBack place) k = first_waiting place k.attempts
gone (MergeFront place behind) k = if is_some (waiting_behind place behind k) then first_waiting place k.attempts else None
gone (Start place sent time) k = None
gone (Issue place sent time tag) k = None
gone (PutBack place sent time) k = None
gone (Completion place sent time) k = if is_some (newest_at place sent k.attempts) then None else first_waiting place k.attempts

-- the id of the new one, if there is one
abbrev pub new_ids : ℕ → ℕ → List ℕ
new_ids next then_next = if then_next == next then [] else next ∷ []

-- an attempt that was started stays started, at the same time
abbrev pub IsStartKept : Attempt → Attempt → Type 0
IsStartKept a b = is_waiting a.state ≡ false → (is_waiting b.state ≡ false) × (start_of b.state ≡ start_of a.state)

-- the arrival stays; one that wasn't seen may become known, and then it is the start
abbrev pub IsArrivalKept : Attempt → Attempt → Type 0
IsArrivalKept a b = (b.arrival ≡ a.arrival) ⊎ ((a.arrival ≡ None) × IfSome b.arrival (λ arrival. arrival.time ≡ start_of a.state))
