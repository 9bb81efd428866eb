-- the attempts of a place, and those of its queues
use Rattle.std.proofs.Common.{◌≡◌, ℕ, Bool, true, false, not, ◌&&◌, ◌||◌, ◌==◌, List, Some, None, Option, is_some, refl, sym, ap, ◌∙◌, subst, arith, nat_le}
use Rattle.std.specs.Option.{IfSome}
use Rattle.std.specs.List.{filter}
use Rattle.std.proofs.lemmas.Bool.Decides.{nat_tests}
use Rattle.capture_file.specs.declared.attempt.Arrival.{Arrival}
use Rattle.capture_file.specs.declared.attempt.Place.{Place}
use Rattle.capture_file.specs.declared.attempt.Sent.{Sent}
use Rattle.capture_file.specs.declared.spot.Queue.{Queue}
use Rattle.capture_file.specs.declared.attempt.State.TheVariants.{Waiting, InFlight, Completed, PutBack}
use Rattle.capture_file.specs.States.{State, start_of, is_waiting, is_in_flight}
use Rattle.capture_file.specs.Attempts.{Attempt, IsRising, with_id, is_same_place, waits_at, is_early_at, first_started, fits_at, is_same_sent, newest_at, last_started, first_waiting, first_early}
use Rattle.capture_file.specs.Spots.{waiting, early_at, flying, queue_of, spot_in, spot_of, is_spot_in, first_at, last_at, later_of}
use Rattle.capture_file.proofs.OrderLemmas.{is_eq-queue}
use Rattle.capture_file.proofs.FirstLemmas.{IsFirst, no_both, first_is, find-first, filter-same}
use Rattle.capture_file.proofs.LastLemmas.{IsLast, last_is, one_last, last_of_both}

-- x: of one place; s: of one size; k: of one kind; l: started late enough

all_true : (x l : Bool) → l ≡ true → x ≡ (x && true && true && l)
all_true true l t = sym t
all_true false l t = refl

-- a queue of what waits and one of what flies
other_lane : (x s l : Bool) → false ≡ (x && false && s && l)
other_lane true s l = refl
other_lane false s l = refl

both_at : (x l : Bool) → (x && true && l) ≡ (x && true && true && l)
both_at true l = refl
both_at false l = refl

not_early : (x s l : Bool) → (x && false && l) ≡ (x && false && s && l)
not_early true s l = refl
not_early false s l = refl

early_there : (x s l : Bool) → l ≡ true → (x && true) ≡ ((x && false && s && l) || (x && true && true && l))
early_there true s l t = sym t
early_there false s l t = refl

flying_there : (x k s s0 l : Bool) → l ≡ true → (x && (k && s)) ≡ ((x && k && s && l) || (x && false && s0 && l))
flying_there true true true s0 l t = rw t refl
flying_there true true false s0 l t = refl
flying_there true false s s0 l t = refl
flying_there false k s s0 l t = refl

neither : (a b : Bool) → a ≡ false → b ≡ false → false ≡ (a || b)
neither a b e f = rw (e, f) refl

from_0 : (n : ℕ) → nat_le 0 n ≡ true
from_0 n = grind (arith, nat_tests)

waits-spot : (place p : Place) (sent : Sent) (arrival : Option Arrival) (state : State) (id : ℕ) → (is_waiting state && is_same_place p place) ≡ is_spot_in (waiting place) 0 (spot_in (start_of state) id (queue_of p sent arrival state))
waits-spot place p sent arrival Waiting id = rw (is_eq-queue (waiting p) (waiting place)) (all_true (is_same_place p place) (nat_le 0 0) (from_0 0))
waits-spot place p sent None (InFlight start) id = rw (is_eq-queue (early_at p) (waiting place)) (other_lane (is_same_place p place) true (nat_le 0 start))
waits-spot place p sent (Some arrival) (InFlight start) id = rw (is_eq-queue (flying p sent) (waiting place)) (other_lane (is_same_place p place) (sent.size == 0) (nat_le 0 start))
waits-spot place p sent arrival (Completed start end) id = refl
waits-spot place p sent arrival (PutBack start end) id = refl

early-spot : (place p : Place) (sent : Sent) (from : ℕ) (arrival : Option Arrival) (state : State) (id : ℕ)
    → (is_in_flight state && is_same_place p place && not (is_some arrival) && nat_le from (start_of state)) ≡ is_spot_in (early_at place) from (spot_in (start_of state) id (queue_of p sent arrival state))
early-spot place p sent from arrival Waiting id = rw (is_eq-queue (waiting p) (early_at place)) (other_lane (is_same_place p place) true (nat_le from 0))
early-spot place p sent from None (InFlight start) id = rw (is_eq-queue (early_at p) (early_at place)) (both_at (is_same_place p place) (nat_le from start))
early-spot place p sent from (Some arrival) (InFlight start) id = rw (is_eq-queue (flying p sent) (early_at place)) (not_early (is_same_place p place) (sent.size == 0) (nat_le from start))
early-spot place p sent from arrival (Completed start end) id = refl
early-spot place p sent from arrival (PutBack start end) id = refl

flying-spot : (place p : Place) (given sent : Sent) (arrival : Option Arrival) (state : State) (id : ℕ)
    → ((is_in_flight state && is_same_place p place) && (not (is_some arrival) || is_same_sent sent given))
    ≡ (is_spot_in (flying place given) 0 (spot_in (start_of state) id (queue_of p sent arrival state)) || is_spot_in (early_at place) 0 (spot_in (start_of state) id (queue_of p sent arrival state)))
flying-spot place p given sent arrival Waiting id =
    neither (is_spot_in (flying place given) 0 (spot_in 0 id (Some (waiting p)))) (is_spot_in (early_at place) 0 (spot_in 0 id (Some (waiting p))))
    (rw (is_eq-queue (waiting p) (flying place given)) (sym (other_lane (is_same_place p place) (0 == given.size) (nat_le 0 0))))
    (rw (is_eq-queue (waiting p) (early_at place)) (sym (other_lane (is_same_place p place) true (nat_le 0 0))))
flying-spot place p given sent None (InFlight start) id =
    rw (is_eq-queue (early_at p) (flying place given), is_eq-queue (early_at p) (early_at place)) (early_there (is_same_place p place) (0 == given.size) (nat_le 0 start) (from_0 start))
flying-spot place p given sent (Some arrival) (InFlight start) id =
    rw (is_eq-queue (flying p sent) (flying place given), is_eq-queue (flying p sent) (early_at place)) (flying_there (is_same_place p place) (sent.kind == given.kind) (sent.size == given.size) (sent.size == 0) (nat_le 0 start) (from_0 start))
flying-spot place p given sent arrival (Completed start end) id = refl
flying-spot place p given sent arrival (PutBack start end) id = refl

pub waits_from_0 : (state : State) (x : Bool) → (is_waiting state && x) ≡ true → start_of state ≡ 0
waits_from_0 Waiting x t = refl
waits_from_0 (InFlight start) x t = no_both false t refl
waits_from_0 (Completed start end) x t = no_both false t refl
waits_from_0 (PutBack start end) x t = no_both false t refl

abbrev is_in : Queue → ℕ → Attempt → Bool
is_in queue from a = is_spot_in queue from (spot_of a)

pub first_waiting-at : (place : Place) (all : List Attempt) → first_waiting place all ≡ first_at (waiting place) 0 all
first_waiting-at place all =
    find-first (waits_at place) (λ a. is_spot_in (waiting place) 0 (spot_of a)) all
    (λ a. waits-spot place a.place a.sent a.arrival a.state a.id)
    (λ a t. waits_from_0 a.state (is_same_place a.place place) (waits-spot place a.place a.sent a.arrival a.state a.id ∙ t))

pub first_early-at : (place : Place) (from : ℕ) (all : List Attempt) → first_early place from all ≡ first_at (early_at place) from all
first_early-at place from all =
    ap first_started (filter-same (is_early_at place from) (is_in (early_at place) from) all (λ a. early-spot place a.place a.sent from a.arrival a.state a.id))

pub newest-at : (place : Place) (sent : Sent) (all : List Attempt) → IsRising all → newest_at place sent all ≡ later_of (last_at (flying place sent) all) (last_at (early_at place) all)
newest-at place sent all rising =
    let p = is_in (flying place sent) 0 in
    let q = is_in (early_at place) 0 in
    let r = last_started (filter p all) in
    let s = last_started (filter q all) in
    ap last_started (filter-same (fits_at place sent) (λ a. p a || q a) all (λ a. flying-spot place a.place sent a.sent a.arrival a.state a.id))
    ∙ one_last (λ a. p a || q a) all (last_started (filter (λ a. p a || q a) all)) (later_of r s) (last_is (λ a. p a || q a) all rising)
    (last_of_both p q all r s (last_is p all rising) (last_is q all rising))

-- ---- what is found

found_at : (p : Attempt → Bool) (all : List Attempt) (r : Option Attempt) → IsFirst p all r → IfSome r (λ (a : Attempt). with_id a.id all ≡ Some a)
found_at p all None h = tt
found_at p all (Some a) h = h.0

found_passes : (p : Attempt → Bool) (all : List Attempt) (r : Option Attempt) → IsFirst p all r → IfSome r (λ (a : Attempt). p a ≡ true)
found_passes p all None h = tt
found_passes p all (Some a) h = h.1

pub waits_first : (place : Place) (all : List Attempt) → IsRising all → IsFirst (waits_at place) all (first_waiting place all)
waits_first place all rising =
    let p = waits_at place in
    let q : Attempt → Bool = λ a. is_spot_in (waiting place) 0 (spot_of a) in
    let same : filter p all ≡ filter q all = filter-same p q all (λ a. waits-spot place a.place a.sent a.arrival a.state a.id) in
    subst (IsFirst p all) (ap first_started same ∙ sym (first_waiting-at place all)) (first_is p all rising)

pub waiting_at : (place : Place) (all : List Attempt) (r : Option Attempt) → IsRising all → r ≡ first_waiting place all → IfSome r (λ (a : Attempt). with_id a.id all ≡ Some a)
waiting_at place all r rising e = found_at (waits_at place) all r (subst (IsFirst (waits_at place) all) (sym e) (waits_first place all rising))

pub waiting_passes : (place : Place) (all : List Attempt) (r : Option Attempt) → IsRising all → r ≡ first_waiting place all → IfSome r (λ (a : Attempt). waits_at place a ≡ true)
waiting_passes place all r rising e = found_passes (waits_at place) all r (subst (IsFirst (waits_at place) all) (sym e) (waits_first place all rising))

last_found : (p : Attempt → Bool) (all : List Attempt) (r : Option Attempt) → IsLast p all r → IfSome r (λ (a : Attempt). with_id a.id all ≡ Some a)
last_found p all None h = tt
last_found p all (Some a) h = h.0

pub newest_found : (place : Place) (sent : Sent) (all : List Attempt) (r : Option Attempt) → IsRising all → r ≡ newest_at place sent all → IfSome r (λ (a : Attempt). with_id a.id all ≡ Some a)
newest_found place sent all r rising e = last_found (fits_at place sent) all r (subst (IsLast (fits_at place sent) all) (sym e) (last_is (fits_at place sent) all rising))

pub early_found : (place : Place) (from : ℕ) (all : List Attempt) (r : Option Attempt) → IsRising all → r ≡ first_early place from all → IfSome r (λ (a : Attempt). with_id a.id all ≡ Some a)
early_found place from all r rising e = found_at (is_early_at place from) all r (subst (IsFirst (is_early_at place from) all) (sym e) (first_is (is_early_at place from) all rising))

pub early_passes : (place : Place) (from : ℕ) (all : List Attempt) (r : Option Attempt) → IsRising all → r ≡ first_early place from all → IfSome r (λ (a : Attempt). is_early_at place from a ≡ true)
early_passes place from all r rising e = found_passes (is_early_at place from) all r (subst (IsFirst (is_early_at place from) all) (sym e) (first_is (is_early_at place from) all rising))
