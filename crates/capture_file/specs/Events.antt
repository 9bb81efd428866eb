-- what each event makes of the attempts
use Rattle.std.specs.Prelude.{ℕ, ◌+◌, ◌-◌, ◌<◌, ◌==◌, if◌then◌else◌, List, [], ◌∷◌, ◌++◌, Option, Some, None, is_some}
use Rattle.std.specs.List.{AllByRecursion}
use Rattle.capture_file.specs.declared.attempt.Arrival.{Arrival}
use Rattle.capture_file.specs.declared.attempt.Place.{Place}
use Rattle.capture_file.specs.declared.attempt.Sent.{Sent}
use Rattle.capture_file.specs.declared.attempt.State.TheVariants.{Waiting, InFlight, Completed, PutBack}
use Rattle.capture_file.specs.declared.attempt.Tag.{Tag}
use Rattle.capture_file.specs.declared.requests.Came.{Came}
use Rattle.capture_file.specs.declared.requests.Came.TheVariants as came
use Rattle.capture_file.specs.declared.requests.Ending.{Ending}
use Rattle.capture_file.specs.declared.requests.Ending.TheVariants as ending
use Rattle.capture_file.specs.States.{State, start_of}
use Rattle.capture_file.specs.Attempts.{Attempt, with_id, put, without, is_same_place, first_waiting, newest_at, first_early}

-- the attempts in the order in which they came, the id of the next one, and by how much an arrival may come after its start
pub record Known : Type 0 where
  pub skew : ℕ
  pub next : ℕ
  pub attempts : List Attempt

-- each id was used
abbrev pub AreBelow : ℕ → List Attempt → Type 0
AreBelow next all = AllByRecursion (λ (a : Attempt). a.id < next) all

-- ---- one more

-- of one that waits nothing is said yet
abbrev pub nothing : Sent
nothing = record { kind = 0; size = 0 }

abbrev pub added : Place → Sent → Option Arrival → State → Known → Attempt
added place sent arrival state k = record { id = k.next; place = place; sent = sent; arrival = arrival; state = state }

abbrev pub add : Place → Sent → Option Arrival → State → Known → Known
add place sent arrival state k = record k { next = k.next + 1; attempts = k.attempts ++ added place sent arrival state k ∷ [] }

-- ---- an arrival

-- the one of which it is, though the start came before
abbrev pub started_before : Place → ℕ → Known → Option Attempt
started_before place time k = if k.skew == 0 then None else first_early place (time - k.skew) k.attempts

-- it arrived when it was started
abbrev pub seen : Tag → Attempt → Attempt
seen tag a = record a { arrival = Some (record { time = start_of a.state; tag = tag }) }

abbrev pub arrived : Place → ℕ → Tag → Known → Option Attempt → Known
arrived place time tag k None = add place nothing (Some (record { time = time; tag = tag })) Waiting k
arrived place time tag k (Some a) = record k { attempts = put (seen tag a) k.attempts }

abbrev pub after_arrival : Place → ℕ → Tag → Known → Known
after_arrival place time tag k = arrived place time tag k (started_before place time k)

abbrev pub came_as : Known → Option Attempt → Came
came_as k None = came.New k.next
came_as k (Some a) = came.Started a.id

abbrev pub arrival_of : Place → ℕ → Known → Came
arrival_of place time k = came_as k (started_before place time k)

-- ---- merges

-- without one, if there is one
abbrev pub without_it : Known → Option Attempt → Known
without_it k None = k
without_it k (Some a) = record k { attempts = without a.id k.attempts }

abbrev pub after_merge_back : Place → Known → Known
after_merge_back place k = without_it k (first_waiting place k.attempts)

-- the one that waited longest at another place
abbrev pub waiting_behind : Place → Option Place → Known → Option Attempt
waiting_behind place None k = None
waiting_behind place (Some behind) k = if is_same_place behind place then None else first_waiting behind k.attempts

abbrev pub moved : Place → Attempt → Attempt
moved place a = record a { place = place }

-- it is at the place from now on, and the one that waited longest there before is gone
abbrev pub with_front : Place → Known → Option Attempt → Known
with_front place k None = k
with_front place k (Some a) = without_it (record k { attempts = put (moved place a) k.attempts }) (first_waiting place k.attempts)

abbrev pub after_merge_front : Place → Option Place → Known → Known
after_merge_front place behind k = with_front place k (waiting_behind place behind k)

abbrev pub moved_if : Place → Option Attempt → Option Attempt
moved_if place None = None
moved_if place (Some a) = Some (moved place a)

abbrev pub behind_of : Place → Option Place → Known → Option Attempt
behind_of place behind k = moved_if place (waiting_behind place behind k)

-- ---- a start

abbrev pub in_flight_since : Sent → ℕ → Attempt → Attempt
in_flight_since sent time a = record a { sent = sent; state = InFlight time }

abbrev pub with_start : Place → Sent → ℕ → Known → Option Attempt → Known
with_start place sent time k None = add place sent None (InFlight time) k
with_start place sent time k (Some a) = record k { attempts = put (in_flight_since sent time a) k.attempts }

abbrev pub after_start : Place → Sent → ℕ → Known → Known
after_start place sent time k = with_start place sent time k (first_waiting place k.attempts)

abbrev pub started_as : Place → Sent → ℕ → Known → Option Attempt → Attempt
started_as place sent time k None = added place sent None (InFlight time) k
started_as place sent time k (Some a) = in_flight_since sent time a

abbrev pub started : Place → Sent → ℕ → Known → Attempt
started place sent time k = started_as place sent time k (first_waiting place k.attempts)

-- ---- an issue of what nobody queued: it arrives when it is issued

abbrev pub issued : Place → Sent → ℕ → Tag → Known → Attempt
issued place sent time tag k = added place sent (Some (record { time = time; tag = tag })) (InFlight time) k

abbrev pub after_issue : Place → Sent → ℕ → Tag → Known → Known
after_issue place sent time tag k = add place sent (Some (record { time = time; tag = tag })) (InFlight time) k

-- ---- a put-back

abbrev pub put_back_at : ℕ → Attempt → Attempt
put_back_at time a = record a { state = PutBack (start_of a.state) time }

-- the next attempt, if the arrival of the one before is known. What has no sector doesn't wait: its next attempt is an issue
abbrev pub with_next : Place → ℕ → Option Arrival → Known → Known
with_next place time None k = k
with_next place time (Some before) k = if is_some place.sector then add place nothing (Some (record { time = time; tag = before.tag })) Waiting k else k

abbrev pub with_put_back : ℕ → Known → Option Attempt → Known
with_put_back time k None = k
with_put_back time k (Some a) = with_next a.place time a.arrival (record k { attempts = put (put_back_at time a) k.attempts })

abbrev pub after_put_back : Place → Sent → ℕ → Known → Known
after_put_back place sent time k = with_put_back time k (newest_at place sent k.attempts)

abbrev pub put_back_if : ℕ → Option Attempt → Option Attempt
put_back_if time None = None
put_back_if time (Some a) = Some (put_back_at time a)

abbrev pub put_back : Place → Sent → ℕ → Known → Option Attempt
put_back place sent time k = put_back_if time (newest_at place sent k.attempts)

-- ---- a completion

abbrev pub completed_at : ℕ → Attempt → Attempt
completed_at time a = record a { state = Completed (start_of a.state) time }

-- if none in flight fits, the one that waited longest is gone
abbrev pub with_completion : Place → ℕ → Known → Option Attempt → Known
with_completion place time k None = without_it k (first_waiting place k.attempts)
with_completion place time k (Some a) = record k { attempts = put (completed_at time a) k.attempts }

abbrev pub after_completion : Place → Sent → ℕ → Known → Known
after_completion place sent time k = with_completion place time k (newest_at place sent k.attempts)

abbrev pub ended_unstarted : Option Attempt → Ending
ended_unstarted None = ending.Unknown
ended_unstarted (Some a) = ending.NeverStarted a

abbrev pub ending_as : Place → ℕ → Known → Option Attempt → Ending
ending_as place time k None = ended_unstarted (first_waiting place k.attempts)
ending_as place time k (Some a) = ending.Completed (completed_at time a)

abbrev pub ending_of : Place → Sent → ℕ → Known → Ending
ending_of place sent time k = ending_as place time k (newest_at place sent k.attempts)

-- ---- another tag

abbrev pub tagged : Tag → Option Arrival → Option Arrival
tagged tag None = None
tagged tag (Some arrival) = Some (record { time = arrival.time; tag = tag })

abbrev pub with_tag : Tag → Attempt → Attempt
with_tag tag a = record a { arrival = tagged tag a.arrival }

-- of an attempt, if there is one
abbrev pub retagged : Tag → List Attempt → Option Attempt → List Attempt
retagged tag all None = all
retagged tag all (Some a) = put (with_tag tag a) all

abbrev pub after_tagging : ℕ → Tag → Known → Known
after_tagging id tag k = record k { attempts = retagged tag k.attempts (with_id id k.attempts) }

-- ---- forgetting

abbrev pub after_forgetting : ℕ → Known → Known
after_forgetting id k = record k { attempts = without id k.attempts }
