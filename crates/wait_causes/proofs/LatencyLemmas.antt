-- how long requests took, and why some took too long
use Rattle.std.proofs.Common.{◌≡◌, ℕ, suc, ◌+◌, ◌≤◌, Bool, true, false, cond, List, [], ◌∷◌, length, Option, Some, None, refl, arith, ◌&&◌, not, count_by}
use Rattle.std.specs.List.{filter_map, cons_option}
use Rattle.std.proofs.lemmas.List.Sums.{sum_by-cons}
use Rattle.wait_causes.specs.Latencies.{latency, latencies}
use Rattle.wait_causes.specs.Limits.{LatencyLimit, is_over, is_by_order, is_by_slots, is_by_device, is_in_time, pace_round, chosen, counts_of, limit_counts}
use Rattle.wait_causes.specs.Stays.{ExplainedStay}

-- no more than there are stays
fewer : {X : Type 0} (f : X → Option ℕ) (xs : List X) → length (filter_map f xs) ≤ length xs
fewer f [] = omega arith
fewer f (x ∷ xs) = elim (f x) as (λ o. length (cons_option o (filter_map f xs)) ≤ suc (length xs)) [
  | None ↦ omega (arith, fewer f xs)
  | Some n ↦ omega (arith, fewer f xs)
]

pub few_latencies : (stays : List ExplainedStay) → length (latencies stays) ≤ length stays
few_latencies stays = fewer latency stays

-- one that took too long is in time by one of the two schedules, or by none
parted : (over pace best : Bool) → ◌≡◌ {A = ℕ} (cond over 1 0) (cond (over && pace) 1 0 + cond (over && (not pace && best)) 1 0 + cond (over && (not pace && not best)) 1 0)
parted false pace best = refl
parted true true best = refl
parted true false true = refl
parted true false false = refl

pub over_parted : (limit : LatencyLimit) (stays : List ExplainedStay) → count_by (is_over limit) stays ≡ count_by (is_by_order limit) stays + count_by (is_by_slots limit) stays + count_by (is_by_device limit) stays
over_parted limit [] = refl
over_parted limit (s ∷ ss) =
    omega (
      arith,
      over_parted limit ss,
      parted (is_over limit s) (is_in_time limit s (pace_round s)) (is_in_time limit s s.best),
      sum_by-cons (λ t. cond (is_over limit t) 1 0) s ss,
      sum_by-cons (λ t. cond (is_by_order limit t) 1 0) s ss,
      sum_by-cons (λ t. cond (is_by_slots limit t) 1 0) s ss,
      sum_by-cons (λ t. cond (is_by_device limit t) 1 0) s ss,
    )

pub counts_add_up : (limit : LatencyLimit) (stays : List ExplainedStay) → (limit_counts limit stays).over ≡ (limit_counts limit stays).by_order + (limit_counts limit stays).by_slots + (limit_counts limit stays).device
unfolding counts_of
counts_add_up limit stays = over_parted limit (chosen limit.of stays)
