-- tests on one event
use Rattle.std.specs.Prelude.{ℕ, ◌==◌, Bool, true, false, not, ◌&&◌, ◌||◌, if◌then◌else◌, Option, Some, None}
use Rattle.cam_types.specs.declared.outcome.Outcome.{Outcome}
use Rattle.sense_class.specs.Classes.{status_of}
pub use Rattle.event_rules.specs.declared.event.Event.{Event}
pub use Rattle.event_rules.specs.declared.event.Event.TheVariants.{Submit, Send, Done, Requeue, Finish, FreezeDev, ReleaseDev, FreezeSim, ReleaseSim, Adjust, Tick}
use Rattle.event_rules.specs.declared.submission.Submission.{Submission}

-- there is one, and it passes the test
abbrev pub is_some_and : {X : Type 0} → (X → Bool) → Option X → Bool
is_some_and p None = false
is_some_and p (Some x) = p x

abbrev pub is_tick : Event → Bool
is_tick Tick = true
is_tick _ = false

-- what a submit submits
abbrev pub submission_of : Event → Option Submission
submission_of (Submit driver device priority retries flags) =
    Some (record { driver = driver; device = device; priority = priority; retries = retries; flags = flags })
submission_of _ = None

abbrev pub is_send_of : ℕ → Event → Bool
is_send_of c (Send lane ccb) = ccb == c
is_send_of c _ = false

abbrev pub is_done_of : ℕ → Event → Bool
is_done_of c (Done ccb outcome) = ccb == c
is_done_of c _ = false

abbrev pub is_send_or_done_of : ℕ → Event → Bool
is_send_or_done_of c e = is_send_of c e || is_done_of c e

abbrev pub is_requeue_of : ℕ → Event → Bool
is_requeue_of c (Requeue ccb) = ccb == c
is_requeue_of c _ = false

abbrev pub is_finish_of : ℕ → Event → Bool
is_finish_of c (Finish ccb) = ccb == c
is_finish_of c _ = false

-- a send, a completion, a requeue or a finish of the CCB
abbrev pub concerns : ℕ → Event → Bool
concerns c e = is_send_or_done_of c e || is_requeue_of c e || is_finish_of c e

-- the CCB that it concerns
abbrev pub ccb_of : Event → Option ℕ
ccb_of (Send lane ccb) = Some ccb
ccb_of (Done ccb outcome) = Some ccb
ccb_of (Requeue ccb) = Some ccb
ccb_of (Finish ccb) = Some ccb
ccb_of _ = None

abbrev pub outcome_of : Event → Option Outcome
outcome_of (Done ccb outcome) = Some outcome
outcome_of _ = None

-- a completion whose status isn't 01
abbrev pub is_erring : Event → Bool
is_erring (Done ccb outcome) = not (status_of outcome == 1)
is_erring _ = false

-- an event that ends the CCB: a completion with status 01, or a finish
abbrev pub ends : ℕ → Event → Bool
ends c e = (is_done_of c e && not (is_erring e)) || is_finish_of c e

-- how many freezes an event of a caller adds to the device's, and how many it takes away
abbrev pub freezes : ℕ → Event → ℕ
freezes d (FreezeDev device count) = if device == d then count else 0
freezes d _ = 0

abbrev pub releases : ℕ → Event → ℕ
releases d (ReleaseDev device count) = if device == d then count else 0
releases d _ = 0

-- the same of an adapter
abbrev pub sim_freezes : ℕ → Event → ℕ
sim_freezes a (FreezeSim sim count) = if sim == a then count else 0
sim_freezes a _ = 0

abbrev pub is_sim_release_of : ℕ → Event → Bool
is_sim_release_of a (ReleaseSim sim) = sim == a
is_sim_release_of a _ = false

abbrev pub is_adjust_of : ℕ → Event → Bool
is_adjust_of d (Adjust device openings) = device == d
is_adjust_of d _ = false

abbrev pub adjusts_to : Event → ℕ
adjusts_to (Adjust device openings) = openings
adjusts_to _ = 0
