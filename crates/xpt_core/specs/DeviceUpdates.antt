-- what an event makes of the devices' queues
use Rattle.std.specs.Prelude.{◌≡◌, ℕ, ◌+◌, ◌-◌, ◌^◌, ◌<◌, ◌≤◌, Bool, true, not, ◌&&◌, if◌then◌else◌, List, [], ◌∷◌, ◌++◌, length, map, drop, Some, slice_get, All}
use Rattle.std.specs.Option.{option_map_or}
use Rattle.xpt_core.specs.Places.{at_place, HasAt}
use Rattle.xpt_core.specs.Words.{MAX_PRIORITY, Waiting, is_erring, Event, Submit, Send, Done, Requeue, Finish, FreezeDev, ReleaseDev, Adjust, Tick, Submission}
use Rattle.dev_queue.specs.Device.{Device, enter, enter_all, held_count, is_ready}

-- one more stay in the queue
abbrev pub with_stay : Waiting → Device → Device
with_stay w q = record q { waiting = enter q.waiting w; entered = q.entered + 1 }

-- its first stay is sent
abbrev pub with_send : Bool → Device → Device
with_send qfreeze q = record q {
  waiting = drop 1 q.waiting;
  sent = q.sent + 1;
  in_flight = q.in_flight + 1;
  callers = q.callers + (if qfreeze then 1 else 0);
}

-- a command has completed, by an error that freezes or not
abbrev pub with_done : Bool → Device → Device
with_done freezes q = record q { in_flight = q.in_flight - 1; errors = q.errors + (if freezes then 1 else 0) }

-- one more stay for the next round, which lifts its error's freeze
abbrev pub with_requeue : Waiting → Bool → Device → Device
with_requeue w frozen q = record q {
  later = q.later ++ w ∷ [];
  errors = q.errors - (if frozen then 1 else 0);
  entered = q.entered + 1;
}

-- an error's freeze is lifted
abbrev pub with_finish : Bool → Device → Device
with_finish frozen q = record q { errors = q.errors - (if frozen then 1 else 0) }

-- that many more of the callers' freezes
abbrev pub with_freezes : ℕ → Device → Device
with_freezes count q = record q { callers = q.callers + count }

-- and that many fewer
abbrev pub less_freezes : ℕ → Device → Device
less_freezes count q = record q { callers = q.callers - count }

-- other openings from the next round on
abbrev pub with_openings : ℕ → Device → Device
with_openings openings q = record q { next_openings = openings }

-- the next round opens
abbrev pub in_next_round : Device → Device
in_next_round q = record q { waiting = enter_all q.waiting q.later; later = []; openings = q.next_openings; sent = 0 }

-- what an event makes of the queue of its CCB's device
abbrev pub updated_ccb : List Submission → ℕ → (Submission → Device → Device) → List Device → List Device
updated_ccb submissions ccb change queues =
    option_map_or (λ (s : Submission). at_place s.device (change s) queues) (slice_get submissions ccb) queues

-- and of all queues, after these submissions
abbrev pub updated : List Submission → Event → List Device → List Device
updated submissions (Submit driver device priority retries flags) queues =
    at_place device (with_stay (record { ccb = length submissions; priority = priority })) queues
updated submissions (Send lane ccb) queues = updated_ccb submissions ccb (λ s. with_send s.flags.qfreeze) queues
updated submissions (Done ccb outcome) queues =
    updated_ccb submissions ccb (λ s. with_done (is_erring (Done ccb outcome) && not s.flags.qfrzdis)) queues
updated submissions (Requeue ccb) queues =
    updated_ccb submissions ccb (λ s. with_requeue (record { ccb = ccb; priority = s.priority }) (not s.flags.qfrzdis)) queues
updated submissions (Finish ccb) queues = updated_ccb submissions ccb (λ s. with_finish (not s.flags.qfrzdis)) queues
updated submissions (FreezeDev device count) queues = at_place device (with_freezes count) queues
updated submissions (ReleaseDev device count) queues = at_place device (less_freezes count) queues
updated submissions (Adjust device openings) queues = at_place device (with_openings openings) queues
updated submissions Tick queues = map in_next_round queues
updated submissions _ queues = queues

-- the CCB of this number was submitted, and so
pub record HasCcb (P : Submission → Type 0) (submissions : List Submission) (ccb : ℕ) : Type 0 where
  pub there : ccb < length submissions
  pub so : (s : Submission) → slice_get submissions ccb ≡ Some s → P s

-- one more CCB may be put in
pub record HasRoom (q : Device) : Type 0 where
  pub room : held_count q < q.capacity
  pub few : q.entered < 2 ^ 32 - 1

-- where an error's freeze is lifted, one stands
pub record HasError (frozen : Bool) (q : Device) : Type 0 where
  pub stands : frozen ≡ true → 0 < q.errors

-- what each kind of event finds in the queues
abbrev pub CanUpdate : List Submission → Event → List Device → Type 0
CanUpdate submissions (Submit driver device priority retries flags) queues =
    HasAt HasRoom queues device × (priority ≤ MAX_PRIORITY) × (length submissions < 2 ^ 32)
CanUpdate submissions (Send lane ccb) queues =
    HasCcb (λ s. HasAt (λ q. is_ready q ≡ true) queues s.device) submissions ccb
CanUpdate submissions (Done ccb outcome) queues =
    HasCcb (λ s. HasAt (λ q. 0 < q.in_flight) queues s.device) submissions ccb
CanUpdate submissions (Requeue ccb) queues =
    HasCcb (λ s. HasAt (λ q. HasRoom q × HasError (not s.flags.qfrzdis) q) queues s.device × (s.priority ≤ MAX_PRIORITY)) submissions ccb
CanUpdate submissions (Finish ccb) queues =
    HasCcb (λ s. HasAt (HasError (not s.flags.qfrzdis)) queues s.device) submissions ccb
CanUpdate submissions (FreezeDev device count) queues = HasAt (λ q. q.callers + count ≤ 65535) queues device
CanUpdate submissions (ReleaseDev device count) queues = HasAt (λ q. count ≤ q.callers) queues device
CanUpdate submissions (Adjust device openings) queues = device < length queues
CanUpdate submissions Tick queues = All (λ q. q.in_flight ≡ 0) queues
CanUpdate submissions _ queues = Unit
