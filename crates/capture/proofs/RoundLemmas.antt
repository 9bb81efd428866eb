-- times as rounds
use Rattle.std.proofs.Common.{◌≡◌, ℕ, ◌+◌, ◌-◌, ◌*◌, ◌/◌, ◌<◌, ◌≤◌, ◌==◌, true, false, cond, max, List, [], ◌∷◌, ◌++◌, length, map, filter, get_or, refl, arith, All, Option, Some, None, nat_lt, nat_le, Bool, ◌&&◌, IfSome, option_and_then}
use Rattle.std.specs.List.{range_with_len}
use Rattle.std.specs.Option.{option_map_or}
use Rattle.std.proofs.Math.Nat.{div-add-mod'}
use Rattle.std.proofs.lemmas.Nat.{div_below, mod_below}
use Rattle.std.proofs.lemmas.Bool.{ltb-true, ltb-false}
use Rattle.std.proofs.lemmas.List.Elements.{All-nil, All-cons, All-filter, All-map}
use Rattle.cam_types.specs.Lists.{prefixed_after, prefixed, first_answer}
use Rattle.cam_types.specs.declared.limits.TheConstants.{MAX_PRIORITY}
use Rattle.cam_types.proofs.ListLemmas.{or_left, or_right}
use Rattle.recording_file.specs.declared.limits.TheConstants.{MAX_RECORDED_ROUNDS, MAX_REQUESTS}
use Rattle.recording_file.proofs.ListLemmas.{all_of_flat, all_of_filter}
use Rattle.capture.specs.Timed.{TimedRequest, arrival_of, most_of, is_started, start_of, arriving, by_arrival, started}
use Rattle.capture.specs.Rounds.{round_at, first_arrival, rounds_of, unless_end, last_round, done_round, request_in}
use Rattle.capture.specs.Faults.{BadPriority, StartedEarly, EndedEarly, NothingStarted, TooManyRequests, TooManyRounds, is_early, is_ended_early, request_fault, size_fault, late_fault, IsInRounds}

-- each number is at most the greatest
pub each_most : {X : Type 0} (f : X → ℕ) (xs : List X) → All (λ x. f x ≤ most_of f xs) xs
each_most f xs = below f xs (most_of f xs) (omega arith)
  where
    below : {X : Type 0} (f : X → ℕ) (xs : List X) (m : ℕ) → most_of f xs ≤ m → All (λ x. f x ≤ m) xs
    below f [] m le = All-nil (λ x. f x ≤ m)
    below f (x ∷ xs) m le = All-cons (λ y. f y ≤ m) x xs (omega arith) (below f xs m (omega arith))

-- ---- requests without a fault

pub record IsTimely (q : TimedRequest) : Type 0 where
  pub priority : q.priority ≤ MAX_PRIORITY
  pub order : is_started q ≡ true → q.arrival ≤ start_of q
  pub ended : is_started q ≡ true → IfSome q.completed (λ t. start_of q ≤ t)

ended_after : (started : Bool) (start : ℕ) (completed : Option ℕ) → started ≡ true → (started && option_map_or (λ t. nat_lt t start) completed false) ≡ false → IfSome completed (λ t. start ≤ t)
ended_after started start None begun late = _
ended_after started start (Some t) begun late = ltb-false t start (rw begun at late)

no_fault : (before : List TimedRequest) (q : TimedRequest) → request_fault (before, q) ≡ None → IsTimely q
unfolding request_fault
no_fault before q = elim (nat_lt MAX_PRIORITY q.priority) as (λ b. nat_lt MAX_PRIORITY q.priority ≡ b → cond b (Some (BadPriority (length before))) (cond (is_early q) (Some (StartedEarly (length before))) (cond (is_ended_early q) (Some (EndedEarly (length before))) None)) ≡ None → IsTimely q) [
  | true ↦ λ is e. absurd cc
  | false ↦ λ low. elim (is_early q) as (λ b. is_early q ≡ b → cond b (Some (StartedEarly (length before))) (cond (is_ended_early q) (Some (EndedEarly (length before))) None) ≡ None → IsTimely q) [
    | true ↦ λ is e. absurd cc
    | false ↦ λ late. elim (is_ended_early q) as (λ b. is_ended_early q ≡ b → cond b (Some (EndedEarly (length before))) None ≡ None → IsTimely q) [
      | true ↦ λ is e. absurd cc
      | false ↦ λ whole e. record {
        priority = ltb-false MAX_PRIORITY q.priority low;
        order = λ begun. ltb-false (start_of q) q.arrival (rw begun at late);
        ended = λ begun. ended_after (is_started q) (start_of q) q.completed begun whole;
      }
    ] refl
  ] refl
] refl

timely_after : (before qs : List TimedRequest) → first_answer request_fault (prefixed_after before qs) ≡ None → All IsTimely qs
timely_after before [] none = All-nil IsTimely
timely_after before (q ∷ qs) none = All-cons IsTimely q qs (no_fault before q (or_left (request_fault (before, q)) _ none)) (timely_after (before ++ q ∷ []) qs (or_right (request_fault (before, q)) _ none))

-- a started request that is no earlier than it arrived
pub record IsFit (q : TimedRequest) : Type 0 where
  pub priority : q.priority ≤ MAX_PRIORITY
  pub order : q.arrival ≤ start_of q
  pub ended : IfSome q.completed (λ t. start_of q ≤ t)

pub started_fit : (qs : List TimedRequest) → first_answer request_fault (prefixed qs) ≡ None → All IsFit (started qs)
unfolding by_arrival
started_fit qs none =
    let kept : List TimedRequest = filter is_started qs in
    let fit : All IsFit kept = all_of_filter is_started IsFit qs (λ k d lt begun. let is = timely_after [] qs none k d lt in record { priority = is.priority; order = is.order begun; ended = is.ended begun }) in
    all_of_flat IsFit (arriving kept) (range_with_len 0 (most_of arrival_of kept + 1)) (λ k d lt. All-filter (λ (q : TimedRequest). q.arrival == get_or (range_with_len 0 (most_of arrival_of kept + 1)) k d) IsFit kept fit)

-- ---- rounds of times

-- a later time is in no earlier round
pub round_later : (span begin s t : ℕ) → 1 ≤ span → s ≤ t → round_at span begin s ≤ round_at span begin t
round_later span begin s t some le =
    let n : ℕ = (t - begin) / span in
    let whole = div-add-mod' (t - begin) span in
    let rest = mod_below (t - begin) span some in
    let below : (s - begin) / span < n + 1 = div_below (s - begin) span (n + 1) some (omega (arith, times_more n span)) in
    omega arith
  where
    times_more : (n k : ℕ) → (n + 1) * k ≡ n * k + k
    times_more n k = grind arith

pub starts_within : (span : ℕ) (qs : List TimedRequest) → 1 ≤ span → All (λ q. round_at span (first_arrival qs) (start_of q) ≤ rounds_of span qs) qs
starts_within span qs some = λ k d lt. round_later span (first_arrival qs) _ _ some (each_most start_of qs k d lt)

pub arrivals_within : (span : ℕ) (qs : List TimedRequest) → 1 ≤ span → All IsFit qs → All (λ q. round_at span (first_arrival qs) q.arrival ≤ rounds_of span qs) qs
arrivals_within span qs some fit = λ k d lt.
    let is = fit k d lt in
    let order = is.order in
    let most = each_most start_of qs k d lt in
    round_later span (first_arrival qs) _ _ some (omega arith)

-- ---- requests in rounds

last_between : (rounds sent m : ℕ) → sent ≤ rounds → (sent ≤ option_map_or (λ n. n) (unless_end rounds (max sent m)) rounds) × (option_map_or (λ n. n) (unless_end rounds (max sent m)) rounds ≤ rounds)
last_between rounds sent m le = elim (nat_lt (max sent m) rounds) as (λ b. nat_lt (max sent m) rounds ≡ b → (sent ≤ option_map_or (λ n. n) (cond b (Some (max sent m)) None) rounds) × (option_map_or (λ n. n) (cond b (Some (max sent m)) None) rounds ≤ rounds)) [
  | true ↦ λ is. let lt = ltb-true (max sent m) rounds is in (omega arith, omega arith)
  | false ↦ λ other. (le, omega arith)
] refl

last_within : (span begin rounds sent : ℕ) (retried : Option ℕ) → sent ≤ rounds → (sent ≤ option_map_or (λ n. n) (last_round span begin rounds sent retried) rounds) × (option_map_or (λ n. n) (last_round span begin rounds sent retried) rounds ≤ rounds)
last_within span begin rounds sent None le = (le, omega arith)
last_within span begin rounds sent (Some t) le = last_between rounds sent (round_at span begin t - 1) le

done_after : (span begin start : ℕ) (completed : Option ℕ) → 1 ≤ span → IfSome completed (λ t. start ≤ t) → IfSome (option_and_then (done_round span begin) completed) (λ n. round_at span begin start ≤ n)
unfolding done_round
done_after span begin start None some ended = _
done_after span begin start (Some t) some ended =
    let later = round_later span begin start t some ended in
    elim (nat_le (round_at span begin t) 4294967295) as (λ b. IfSome (cond b (Some (round_at span begin t)) None) (λ n. round_at span begin start ≤ n)) [ true ↦ later | false ↦ _ ]

in_round : (span begin rounds : ℕ) (q : TimedRequest) → 1 ≤ span → IsFit q → round_at span begin (start_of q) ≤ rounds → IsInRounds rounds (request_in span begin rounds q)
unfolding request_in
in_round span begin rounds q some fit le =
    let last = last_within span begin rounds (round_at span begin (start_of q)) q.retried le in
    record {
      priority = fit.priority;
      first = omega arith;
      arrived = round_later span begin q.arrival (start_of q) some fit.order;
      within = last.0;
      last = last.1;
      done = done_after span begin (start_of q) q.completed some fit.ended;
    }

pub all_in_rounds : (span : ℕ) (qs : List TimedRequest) → 1 ≤ span → All IsFit qs → All (IsInRounds (rounds_of span qs)) (map (request_in span (first_arrival qs) (rounds_of span qs)) qs)
all_in_rounds span qs some fit =
    All-map (IsInRounds (rounds_of span qs)) (request_in span (first_arrival qs) (rounds_of span qs)) qs (λ k d lt. in_round span (first_arrival qs) (rounds_of span qs) (get_or qs k d) some (fit k d lt) (starts_within span qs some k d lt))

-- a size without a fault
pub record IsSize (requests rounds : ℕ) : Type 0 where
  pub many : requests ≤ MAX_REQUESTS
  pub short : rounds ≤ MAX_RECORDED_ROUNDS

pub size_fits : (requests rounds : ℕ) → size_fault requests rounds ≡ None → IsSize requests rounds
unfolding size_fault
size_fits requests rounds = elim (requests == 0) as (λ b. cond b (Some NothingStarted) (cond (nat_lt MAX_REQUESTS requests) (Some (TooManyRequests requests)) (cond (nat_lt MAX_RECORDED_ROUNDS rounds) (Some (TooManyRounds rounds)) None)) ≡ None → IsSize requests rounds) [
  | true ↦ λ e. absurd cc
  | false ↦ elim (nat_lt MAX_REQUESTS requests) as (λ b. nat_lt MAX_REQUESTS requests ≡ b → cond b (Some (TooManyRequests requests)) (cond (nat_lt MAX_RECORDED_ROUNDS rounds) (Some (TooManyRounds rounds)) None) ≡ None → IsSize requests rounds) [
    | true ↦ λ is e. absurd cc
    | false ↦ λ few. elim (nat_lt MAX_RECORDED_ROUNDS rounds) as (λ b. nat_lt MAX_RECORDED_ROUNDS rounds ≡ b → cond b (Some (TooManyRounds rounds)) None ≡ None → IsSize requests rounds) [
      | true ↦ λ is e. absurd cc
      | false ↦ λ short e. record { many = ltb-false MAX_REQUESTS requests few; short = ltb-false MAX_RECORDED_ROUNDS rounds short }
    ] refl
  ] refl
]

-- the same in rounds from a time on
pub record IsInTime (rounds requests last : ℕ) : Type 0 where
  pub many : requests ≤ MAX_REQUESTS
  pub early : last ≤ rounds

pub starts_in_time : (rounds requests last : ℕ) → late_fault rounds requests last ≡ None → IsInTime rounds requests last
unfolding late_fault
starts_in_time rounds requests last = elim (nat_lt MAX_REQUESTS requests) as (λ b. nat_lt MAX_REQUESTS requests ≡ b → cond b (Some (TooManyRequests requests)) (cond (nat_lt rounds last) (Some (TooManyRounds last)) None) ≡ None → IsInTime rounds requests last) [
  | true ↦ λ is e. absurd cc
  | false ↦ λ few. elim (nat_lt rounds last) as (λ b. nat_lt rounds last ≡ b → cond b (Some (TooManyRounds last)) None ≡ None → IsInTime rounds requests last) [
    | true ↦ λ is e. absurd cc
    | false ↦ λ short e. record { many = ltb-false MAX_REQUESTS requests few; early = ltb-false rounds last short }
  ] refl
] refl

pub starts_before : (span begin rounds : ℕ) (qs : List TimedRequest) → 1 ≤ span → round_at span begin (most_of start_of qs) ≤ rounds → All (λ q. round_at span begin (start_of q) ≤ rounds) qs
starts_before span begin rounds qs some le = λ k d lt.
    let later = round_later span begin _ _ some (each_most start_of qs k d lt) in
    omega arith

pub arrivals_before : (span begin rounds : ℕ) (qs : List TimedRequest) → 1 ≤ span → All IsFit qs → round_at span begin (most_of start_of qs) ≤ rounds → All (λ q. round_at span begin q.arrival ≤ rounds) qs
arrivals_before span begin rounds qs some fit le = λ k d lt.
    let is = fit k d lt in
    let order = is.order in
    let most = each_most start_of qs k d lt in
    let later = round_later span begin (get_or qs k d).arrival (most_of start_of qs) some (omega arith) in
    omega arith

pub all_from : (span begin rounds : ℕ) (qs : List TimedRequest) → 1 ≤ span → All IsFit qs → round_at span begin (most_of start_of qs) ≤ rounds → All (IsInRounds rounds) (map (request_in span begin rounds) qs)
all_from span begin rounds qs some fit le =
    All-map (IsInRounds rounds) (request_in span begin rounds) qs (λ k d lt. in_round span begin rounds (get_or qs k d) some (fit k d lt) (starts_before span begin rounds qs some le k d lt))
