-- no admissible schedule costs less than the value of any prices
use Rattle.std.proofs.Common.{◌≡◌, ℕ, ◌+◌, ◌-◌, ◌*◌, ◌<◌, ◌≤◌, true, arith, nat_lt, map, sum_by, lt-ltb, mul-le-mul_right}
use Rattle.price_check.specs.Words.{sum_below, sum_to, least, Instance, rows, path, uses, load, IsAdmissible, cost, IsSound, Pricing, is_open, allowed, priced, paid, offered, ProvesBest}
use Rattle.price_check.specs.Faults.{at_row}
use Rattle.price_check.specs.Verdicts.{IsBest}
use Rattle.round_net.proofs.SumLemmas.{sum_below-le, sum_below-add, sum_to-le}
use Rattle.round_net.proofs.PathLemmas.{exchange_path}
use Rattle.price_check.proofs.LeastLemmas.{least-le_at}
use Rattle.price_check.proofs.TallyLemmas.{count_here}
use Rattle.price_check.proofs.UsedLemmas.{on_used}
use Rattle.price_check.proofs.FaultLemmas.{well_where_admissible}

-- an admissible schedule sends each stay in a round that is open to it
open_round : (net : Instance) (live g : ℕ → ℕ) (s : ℕ) → IsSound net live → IsAdmissible net g → s < net.stays → is_open net s (g s) ≡ true
open_round net live g s sound is lt = on_used (λ row. nat_lt 0 (net.cap row (g s))) (path net s) (λ row used.
    let one = count_here s (uses net row) g used in
    let holds : at_row net g row s ≤ net.cap row (g s) = (well_where_admissible net live g s sound is lt).holds row used in
    lt-ltb 0 (net.cap row (g s)) (omega arith))

-- so the cheapest round costs it no more
least_priced : (net : Instance) (live g : ℕ → ℕ) (p : Pricing) (s : ℕ) → IsSound net live → IsAdmissible net g → s < net.stays → least (map (priced net p s) (allowed net s)) ≤ priced net p s (g s)
least_priced net live g p s sound is lt =
    let early = is.not_early s lt in
    let late = is.not_late s lt in
    least-le_at (priced net p s) (is_open net s) (net.arrival s) (net.last s + 1 - net.arrival s) (g s) early (omega arith) (open_round net live g s sound is lt)

-- what the openings that a schedule uses are worth is at most what all are
worth_within : (net : Instance) (live g : ℕ → ℕ) (p : Pricing) → IsSound net live → IsAdmissible net g → sum_below net.stays (λ s. sum_by (λ row. p row (g s)) (path net s)) ≤ offered net p
worth_within net live g p sound is =
    let inside : (s : ℕ) → s < net.stays → (1 ≤ g s) × (g s ≤ net.rounds) = λ s lt.
    let h = sound.from_first s lt in
    let h' = sound.to_last s lt in
    let early = is.not_early s lt in
    let late = is.not_late s lt in
    (omega arith, omega arith) in
    let same : sum_below net.stays (λ s. sum_by (λ row. p row (g s)) (path net s)) ≡ sum_below (rows net) (λ row. sum_to net.rounds (λ r. load net g row r * p row r)) = exchange_path net live g p sound inside in
    let le : sum_below (rows net) (λ row. sum_to net.rounds (λ r. load net g row r * p row r)) ≤ offered net p =
    sum_below-le (rows net) _ _ (λ row lt. sum_to-le net.rounds (λ r. load net g row r * p row r) (λ r. net.cap row r * p row r) (λ r r1 rn. mul-le-mul_right (p row r) (is.rows_hold row r lt r1 rn))) in
    omega arith

-- what the stays pay is at most what an admissible schedule costs and all openings are worth
pub weak_duality : (net : Instance) (live g : ℕ → ℕ) (p : Pricing) → IsSound net live → IsAdmissible net g → paid net p ≤ cost net g + offered net p
weak_duality net live g p sound is =
    let waiting : ℕ → ℕ = λ s. net.weight s * (g s - net.arrival s) in
    let openings : ℕ → ℕ = λ s. sum_by (λ row. p row (g s)) (path net s) in
    let pays : paid net p ≤ sum_below net.stays (λ s. waiting s + openings s) = sum_below-le net.stays _ _ (λ s lt. least_priced net live g p s sound is lt) in
    let parts : sum_below net.stays (λ s. waiting s + openings s) ≡ sum_below net.stays waiting + sum_below net.stays openings = sum_below-add net.stays waiting openings in
    let worth : sum_below net.stays openings ≤ offered net p = worth_within net live g p sound is in
    omega arith

-- a schedule that prices prove is a best one
pub best_where_proved : (net : Instance) (live f : ℕ → ℕ) (p : Pricing) → IsSound net live → ProvesBest net f p → IsBest net f
best_where_proved net live f p sound proof g is =
    let h = weak_duality net live g p sound is in
    let tight = proof.tight in
    omega arith

-- where nothing is left of the cost above the value, the prices are a proof
pub proof_without_gap : (net : Instance) (live f : ℕ → ℕ) (p : Pricing) (costs worth pays : ℕ) → IsSound net live → IsAdmissible net f → costs ≡ cost net f → worth ≡ offered net p → pays ≡ paid net p → costs + worth - pays ≡ 0 → ProvesBest net f p
proof_without_gap net live f p costs worth pays sound is e e' e'' none =
    let h : paid net p ≤ cost net f + offered net p = weak_duality net live f p sound is in
    let none' : cost net f + offered net p - paid net p ≡ 0 = rw (e, e', e'') at none in
    record { admissible = is; tight = omega arith }
