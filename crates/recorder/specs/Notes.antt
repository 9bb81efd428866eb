-- what was noted of requests
use Rattle.std.specs.Prelude.{◌≡◌, ℕ, ◌==◌, ◌&&◌, Bool, true, false, not, max, if◌then◌else◌, List, [], ◌∷◌, ◌++◌, map, find, Option, None, Some, is_some}
use Rattle.std.specs.Option.{option_map}
use Rattle.std.specs.List.{AllByRecursion}
use Rattle.capture_windows.specs.declared.attempt.Attempt.{Attempt}

-- a request that was noted
pub record Note : Type 0 where
  pub id : ℕ
  pub attempt : Attempt

-- how many devices and drivers there are, how many requests there is room for, the latest time noted, and the requests in the order in
-- which their arrivals were noted
pub record Noted : Type 0 where
  pub devices : ℕ
  pub drivers : ℕ
  pub room : ℕ
  pub time : ℕ
  pub notes : List Note

abbrev pub attempt_of : Note → Attempt
attempt_of n = n.attempt

-- ---- open requests

-- one is neither done nor withdrawn
abbrev pub is_open : Attempt → Bool
is_open a = a.is_taken && not (is_some a.request.completed)

abbrev pub is_open_of : ℕ → Note → Bool
is_open_of id n = (n.id == id) && is_open n.attempt

-- the open request of an id
abbrev pub open_request : ℕ → List Note → Option Attempt
open_request id notes = option_map attempt_of (find (is_open_of id) notes)

-- an id is of one open request: no later one has it
abbrev pub AreApart : List Note → Type 0
AreApart [] = Unit {0}
AreApart (n ∷ rest) = (is_open n.attempt ≡ true → AllByRecursion (λ (m : Note). (m.id == n.id) ≡ false) rest) × AreApart rest

-- ---- what a note makes of them

-- one that has arrived
abbrev pub arrived : ℕ → ℕ → ℕ → ℕ → Attempt
arrived device driver priority time = record {
  request = record { arrival = time; started = None; retried = None; completed = None; driver = driver; device = device; priority = priority };
  is_taken = true;
  has_slot = true;
  number = 0;
}

-- with one more, at its arrival
abbrev pub with_arrival : ℕ → Attempt → Noted → Noted
with_arrival id a n = record n { time = max n.time a.request.arrival; notes = n.notes ++ record { id = id; attempt = a } ∷ [] }

-- from then on it was started
abbrev pub started_at : ℕ → Attempt → Attempt
started_at time a = record a { request = record a.request { started = Some time } }

-- or done
abbrev pub done_at : ℕ → Attempt → Attempt
done_at time a = record a { request = record a.request { completed = Some time } }

-- it is none of the requests, and holds no slot
abbrev pub withdrawn : Attempt → Attempt
withdrawn a = record a { is_taken = false; has_slot = false }

-- with the open request of an id changed
abbrev pub change : ℕ → (Attempt → Attempt) → List Note → List Note
change id f notes = map (λ (n : Note). if is_open_of id n then record n { attempt = f n.attempt } else n) notes

-- the same at a time, which may be the latest
abbrev pub with_change : ℕ → (Attempt → Attempt) → ℕ → Noted → Noted
with_change id f time n = record n { time = max n.time time; notes = change id f n.notes }
