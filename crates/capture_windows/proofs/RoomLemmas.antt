-- what a device had room for in a window
use Rattle.std.proofs.Common.{◌≡◌, ℕ, suc, ◌+◌, ◌-◌, ◌*◌, ◌/◌, ◌<◌, ◌≤◌, ◌==◌, ◌&&◌, nat_lt, Bool, true, false, cond, List, [], ◌∷◌, length, map, filter, get_or, refl, ap, ◌∙◌, length-append, arith, Option, None, Some, unwrap_or}
use Rattle.std.specs.List.{All}
use Rattle.std.proofs.lemmas.Bool.{and_parts, lt-leb, ltb-true}
use Rattle.std.proofs.lemmas.List.{length-map}
use Rattle.std.proofs.lemmas.List.Sums.{count_by-le-length, length-filter}
use Rattle.std.proofs.lemmas.Nat.{div_below}
use Rattle.std.proofs.lemmas.List.Elements.{All-map}
use Rattle.slots.specs.declared.flight.Wait.{Wait}
use Rattle.slots.specs.Gaps.{round_at}
use Rattle.slots.specs.declared.flight.Flight.{Flight}
use Rattle.slots.specs.declared.numbered.NumberedFlight.{NumberedFlight}
use Rattle.slots.specs.Windowed.{flight_of, flights_in_window}
use Rattle.capture_windows.specs.Attempts.{Attempt, TimeSpan, before, is_before, is_within, starts_before, starts_in}
use Rattle.capture_windows.specs.Devices.{attempts_of, earlier_flights, flight_until, flights_at, numbered_until, own_flights, wait_in}

-- of two tests that no element passes both, so many pass one or the other
apart_few : {X : Type 0} (p q : X → Bool) → ((x : X) → p x ≡ true → q x ≡ false) → (xs : List X) → length (filter p xs) + length (filter q xs) ≤ length xs
apart_few p q apart [] = omega arith
apart_few {X} p q apart (x ∷ xs) =
    let rest = apart_few p q apart xs in
    elim (p x) as (λ b. p x ≡ b → length (cond b (x ∷ filter p xs) (filter p xs)) + length (cond (q x) (x ∷ filter q xs) (filter q xs)) ≤ suc (length xs)) [
      | true ↦ λ is. rw (apart x is) (omega arith)
      | false ↦ λ _. elim (q x) as (λ b. length (filter p xs) + length (cond b (x ∷ filter q xs) (filter q xs)) ≤ suc (length xs)) [ true ↦ omega arith | false ↦ omega arith ]
    ] refl

-- what was started before a window wasn't started in it
earlier_apart : (span : TimeSpan) (a : Attempt) → (a.has_slot && starts_before span.from a) ≡ true → (a.has_slot && starts_in span a) ≡ false
earlier_apart span a is = ap (λ b. a.has_slot && b) (outside a.request.started (and_parts a.has_slot (starts_before span.from a) is).1) ∙ no_more a.has_slot
  where
    outside : (o : Option ℕ) → is_before span.from o ≡ true → is_within span.from span.until o ≡ false
    outside None is = refl
    outside (Some s) is =
        let early : s < span.from = ltb-true s span.from is in
        ap (λ b. b && nat_lt s span.until) (lt-leb span.from s early)

    no_more : (b : Bool) → (b && false) ≡ false
    no_more true = refl
    no_more false = refl

-- a device has no more flights in a window than attempts
pub flights_few : (span : TimeSpan) (own : List Attempt) → length (earlier_flights span own) + length (own_flights span own) ≤ length own
flights_few span own =
    let a = length-map (filter (λ (a : Attempt). a.has_slot && starts_before span.from a) own) (numbered_until span.until) in
    let b = length-map (filter (λ (a : Attempt). a.has_slot && starts_in span a) own) (flight_until span.until) in
    let both = apart_few (λ (a : Attempt). a.has_slot && starts_before span.from a) (λ (a : Attempt). a.has_slot && starts_in span a) (earlier_apart span) own in
    omega (arith, a, b, both)

-- the flights that are put together
pub flights_are : (span : TimeSpan) (own : List Attempt) (flights : List Flight) (earlier : List NumberedFlight) (started : List Flight) → earlier ≡ earlier_flights span own → started ≡ own_flights span own → flights ≡ flights_in_window earlier started → flights ≡ flights_in_window (earlier_flights span own) (own_flights span own)
flights_are span own flights earlier started a b is = is ∙ ap (λ e. flights_in_window e started) a ∙ ap (flights_in_window (earlier_flights span own)) b

pub flights_length : (span : TimeSpan) (own : List Attempt) (flights : List Flight) → flights ≡ flights_in_window (earlier_flights span own) (own_flights span own) → length flights ≤ length own
flights_length span own flights are = omega (arith, ap length are, flights_few span own, length-append (map flight_of (earlier_flights span own)) (own_flights span own), length-map (earlier_flights span own) flight_of)

-- they are those of the device
pub flights_by : (span : TimeSpan) (attempts : List Attempt) (device : ℕ) (own : List Attempt) (flights : List Flight) → flights ≡ flights_in_window (earlier_flights span own) (own_flights span own) → own ≡ attempts_of device attempts → flights ≡ flights_at span attempts device
unfolding flights_at
flights_by span attempts device own flights are is = are ∙ ap (λ bs. flights_in_window (earlier_flights span bs) (own_flights span bs)) is

-- what of a device is known by its attempts
pub device_length : (device : ℕ) (attempts : List Attempt) → length (attempts_of device attempts) ≤ length attempts
device_length device attempts =
    omega (arith, length-filter (λ (a : Attempt). a.request.device == device) attempts, count_by-le-length (λ (a : Attempt). a.request.device == device) attempts)

-- no wait begins before round 1
pub waits_begin : (span : TimeSpan) (begin : ℕ) (attempts : List Attempt) → All (λ (w : Wait). begin ≤ w.arrival) (map (wait_in span begin) attempts)
waits_begin span begin attempts = All-map (λ (w : Wait). begin ≤ w.arrival) (wait_in span begin) attempts (λ k d lt. omega arith)

-- none ends after the window
wait_ends : (until : ℕ) (o : Option ℕ) → unwrap_or (before until o) until ≤ until
wait_ends until None = omega arith
wait_ends until (Some s) = elim (nat_lt s until) as (λ b. nat_lt s until ≡ b → unwrap_or (cond b (Some s) None) until ≤ until) [
  | true ↦ λ is. let early : s < until = ltb-true s until is in omega arith
  | false ↦ λ _. omega arith
] refl

-- a time up to the end of a window is in one of its rounds, or begins the one after them
in_rounds : (begin length count t : ℕ) → 1 ≤ length → t ≤ begin + count * length → round_at length begin t ≤ count + 1
in_rounds begin length count t some within =
    let turned : (count + 1) * length ≡ count * length + length = times_more count length in
    let below : (t - begin) / length < count + 1 = div_below (t - begin) length (count + 1) some (omega arith) in
    omega arith
  where
    times_more : (n k : ℕ) → (n + 1) * k ≡ n * k + k
    times_more n k = grind arith

pub waits_end : (span : TimeSpan) (begin length count : ℕ) (attempts : List Attempt) → 1 ≤ length → span.until ≡ begin + count * length → All (λ (w : Wait). round_at length begin w.start ≤ count + 1) (map (wait_in span begin) attempts)
waits_end span begin length count attempts some end =
    All-map (λ (w : Wait). round_at length begin w.start ≤ count + 1) (wait_in span begin) attempts
    (λ k d lt. in_rounds begin length count _ some (omega (arith, end, wait_ends span.until (get_or attempts k d).request.started)))
