-- where attempts that haven't ended are found
use Rattle.std.specs.Prelude.{◌≡◌, ℕ, ◌==◌, nat_le, nat_lt, Bool, true, false, ◌&&◌, ◌||◌, if◌then◌else◌, List, filter, Option, Some, None}
use Rattle.std.specs.Option.{option_cmp}
use Rattle.std.specs.Ordering.{nat_cmp, bool_cmp, ordering_then, is_eq}
use Rattle.std.specs.declared.cmp.Ordering.{Ordering}
use Rattle.capture_file.specs.declared.attempt.Arrival.{Arrival}
use Rattle.capture_file.specs.declared.attempt.Attempt.{Attempt}
use Rattle.capture_file.specs.declared.attempt.Place.{Place}
use Rattle.capture_file.specs.declared.attempt.State.TheVariants.{Waiting, InFlight, Completed, PutBack}
use Rattle.capture_file.specs.declared.attempt.Sent.{Sent}
use Rattle.capture_file.specs.declared.spot.Lane.{Lane}
use Rattle.capture_file.specs.declared.spot.Queue.{Queue}
use Rattle.capture_file.specs.declared.spot.Spot.{Spot}
use Rattle.capture_file.specs.States.{State, start_of}
use Rattle.capture_file.specs.Attempts.{first_started, last_started}

-- those that wait at a place
abbrev pub waiting : Place → Queue
waiting place = record { lane = record { place = place; in_flight = false; early = false; kind = 0 }; size = 0 }

-- those in flight there whose arrivals weren't seen
abbrev pub early_at : Place → Queue
early_at place = record { lane = record { place = place; in_flight = true; early = true; kind = 0 }; size = 0 }

-- those in flight there whose arrivals are known, of that kind and size
abbrev pub flying : Place → Sent → Queue
flying place sent = record { lane = record { place = place; in_flight = true; early = false; kind = sent.kind }; size = sent.size }

abbrev pub in_flight_of : Place → Sent → Option Arrival → Queue
in_flight_of place sent None = early_at place
in_flight_of place sent (Some arrival) = flying place sent

-- of what is in a state
abbrev pub queue_of : Place → Sent → Option Arrival → State → Option Queue
queue_of place sent arrival Waiting = Some (waiting place)
queue_of place sent arrival (InFlight start) = Some (in_flight_of place sent arrival)
queue_of place sent arrival (Completed start end) = None
queue_of place sent arrival (PutBack start end) = None

abbrev pub spot_in : ℕ → ℕ → Option Queue → Option Spot
spot_in start id None = None
spot_in start id (Some queue) = Some (record { queue = queue; start = start; id = id })

-- where an attempt is, if it hasn't ended
abbrev pub spot_of : Attempt → Option Spot
spot_of a = spot_in (start_of a.state) a.id (queue_of a.place a.sent a.arrival a.state)

-- ---- their order

abbrev pub place_cmp : Place → Place → Ordering
place_cmp p q = ordering_then (nat_cmp p.device q.device) (option_cmp nat_cmp p.sector q.sector)

abbrev pub lane_cmp : Lane → Lane → Ordering
lane_cmp p q = ordering_then (place_cmp p.place q.place) (ordering_then (bool_cmp p.in_flight q.in_flight) (ordering_then (bool_cmp p.early q.early) (nat_cmp p.kind q.kind)))

abbrev pub queue_cmp : Queue → Queue → Ordering
queue_cmp p q = ordering_then (lane_cmp p.lane q.lane) (nat_cmp p.size q.size)

abbrev pub spot_cmp : Spot → Spot → Ordering
spot_cmp s t = ordering_then (queue_cmp s.queue t.queue) (ordering_then (nat_cmp s.start t.start) (nat_cmp s.id t.id))

abbrev pub is_at_spot : Option Spot → Spot → Bool
is_at_spot None q = false
is_at_spot (Some s) q = is_eq (spot_cmp s q)

-- one isn't where the other is
abbrev pub AreApart : Attempt → Attempt → Type 0
AreApart a b = (q : Spot) → is_at_spot (spot_of a) q ≡ true → is_at_spot (spot_of b) q ≡ false

-- ---- the first of a queue

abbrev pub is_spot_in : Queue → ℕ → Option Spot → Bool
is_spot_in queue from None = false
is_spot_in queue from (Some s) = is_eq (queue_cmp s.queue queue) && nat_le from s.start

abbrev pub first_at : Queue → ℕ → List Attempt → Option Attempt
first_at queue from all = first_started (filter (λ a. is_spot_in queue from (spot_of a)) all)

-- ---- the last of a queue

abbrev pub last_at : Queue → List Attempt → Option Attempt
last_at queue all = last_started (filter (λ a. is_spot_in queue 0 (spot_of a)) all)

-- of the lasts of two queues the one that was started last; of equal ones the one that came last
abbrev pub comes_first : Attempt → Attempt → Bool
comes_first a b = nat_lt (start_of a.state) (start_of b.state) || ((start_of a.state == start_of b.state) && nat_lt a.id b.id)

abbrev pub later_of : Option Attempt → Option Attempt → Option Attempt
later_of None other = other
later_of (Some a) None = Some a
later_of (Some a) (Some b) = Some (if comes_first a b then b else a)
