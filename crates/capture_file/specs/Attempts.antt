-- attempts in the order in which they came
use Rattle.std.specs.Prelude.{ℕ, ◌<◌, ◌==◌, nat_le, nat_lt, Bool, not, ◌&&◌, ◌||◌, if◌then◌else◌, List, [], ◌∷◌, map, filter, find, Option, Some, None, is_some}
use Rattle.std.specs.Option.{option_eq}
use Rattle.std.specs.Prelude.{nat_eq}
use Rattle.std.specs.List.{AllByRecursion}
pub use Rattle.capture_file.specs.declared.attempt.Attempt.{Attempt}
use Rattle.capture_file.specs.declared.attempt.Place.{Place}
use Rattle.capture_file.specs.declared.attempt.Sent.{Sent}
use Rattle.capture_file.specs.States.{start_of, is_waiting, is_in_flight}

-- their ids rise
abbrev pub IsRising : List Attempt → Type 0
IsRising [] = Unit {0}
IsRising (a ∷ rest) = AllByRecursion (λ (b : Attempt). a.id < b.id) rest × IsRising rest

abbrev pub ids : List Attempt → List ℕ
ids all = map (λ (a : Attempt). a.id) all

-- the one that has an id
abbrev pub with_id : ℕ → List Attempt → Option Attempt
with_id id all = find (λ (a : Attempt). a.id == id) all

-- with one in the place of the one that has its id
abbrev pub put : Attempt → List Attempt → List Attempt
put a all = map (λ (b : Attempt). if b.id == a.id then a else b) all

-- without the one that has an id
abbrev pub without : ℕ → List Attempt → List Attempt
without id all = filter (λ (a : Attempt). not (a.id == id)) all

-- ---- at a place

abbrev pub is_same_place : Place → Place → Bool
is_same_place p q = (p.device == q.device) && option_eq nat_eq p.sector q.sector

abbrev pub waits_at : Place → Attempt → Bool
waits_at place a = is_waiting a.state && is_same_place a.place place

abbrev pub is_in_flight_at : Place → Attempt → Bool
is_in_flight_at place a = is_in_flight a.state && is_same_place a.place place

abbrev pub is_same_sent : Sent → Sent → Bool
is_same_sent s t = (s.kind == t.kind) && (s.size == t.size)

-- in flight there, and of that kind and size; if its arrival wasn't seen, neither is asked
abbrev pub fits_at : Place → Sent → Attempt → Bool
fits_at place sent a = is_in_flight_at place a && (not (is_some a.arrival) || is_same_sent a.sent sent)

-- in flight there, its arrival not seen, and started no earlier than at a time
abbrev pub is_early_at : Place → ℕ → Attempt → Bool
is_early_at place from a = is_in_flight_at place a && not (is_some a.arrival) && nat_le from (start_of a.state)

-- the one that was started first; of equal ones the one that came first
abbrev pub earlier : Attempt → Option Attempt → Attempt
earlier a None = a
earlier a (Some b) = if nat_lt (start_of b.state) (start_of a.state) then b else a

abbrev pub first_started : List Attempt → Option Attempt
first_started [] = None
first_started (a ∷ rest) = Some (earlier a (first_started rest))

-- the one that waited longest at a place: of those that wait there the one that came first
abbrev pub first_waiting : Place → List Attempt → Option Attempt
first_waiting place all = find (waits_at place) all

-- the newest in flight there that fits: the one that was started last; of equal ones the one that came last
abbrev pub later : Attempt → Option Attempt → Attempt
later a None = a
later a (Some b) = if nat_lt (start_of b.state) (start_of a.state) then a else b

abbrev pub last_started : List Attempt → Option Attempt
last_started [] = None
last_started (a ∷ rest) = Some (later a (last_started rest))

abbrev pub newest_at : Place → Sent → List Attempt → Option Attempt
newest_at place sent all = last_started (filter (fits_at place sent) all)

-- of those in flight there whose arrival wasn't seen, and which weren't started before a time, the one that was started first
abbrev pub first_early : Place → ℕ → List Attempt → Option Attempt
first_early place from all = first_started (filter (is_early_at place from) all)
