-- what a recording and its windows have to do with each other
use Rattle.std.proofs.Common.{◌≡◌, ℕ, ◌+◌, ◌<◌, ◌≤◌, List, [], ◌∷◌, sum, sum_by, subst, arith}
use Rattle.std.proofs.lemmas.List.Sums.{sum_by-cons}
use Rattle.std.proofs.lemmas.Bool.{ltb-true, lt-leb, cond-true, cond-false}
use Rattle.recording_file.specs.Recorded.{Recorded, IsKept}
use Rattle.round_net.specs.Sums.{count_below}
use Rattle.round_net.specs.Schedules.{IsAdmissible, cost}
use Rattle.round_net.specs.RecordedNets.{instance_of_recording, live_of_recording}
use Rattle.round_net.proofs.RecordedLemmas.{recording_net}
use Rattle.price_check.proofs.DualityLemmas.{best_where_proved}
use Rattle.window_recordings.specs.Windows.{first_window, second_window, carried, windows, carried_in_all, AreCuts}
use Rattle.window_recordings.specs.Laws.{one_after_other, recorded_cost, IsExcess, AreExcesses}
use Rattle.window_recordings.proofs.PartLemmas.{is_after, picked_within, Joins, joins_live, cost-joined, admissible-joined}
use Rattle.window_recordings.proofs.WindowLemmas.{first_part, second_part, carried_is}

pub cost-parts : (c : ℕ) (r : Recorded) → c ≤ r.rounds → recorded_cost r ≡ recorded_cost (first_window c r) + recorded_cost (second_window c r) + carried c r
cost-parts c r within =
    let is = first_part c r within in
    let is' = second_part c r in
    let joins = joins_live (instance_of_recording r) (instance_of_recording (first_window c r)) (instance_of_recording (second_window c r)) (live_of_recording r) (live_of_recording (first_window c r)) (live_of_recording (second_window c r)) c is is' in
    omega (arith, cost-joined (instance_of_recording r) (instance_of_recording (first_window c r)) (instance_of_recording (second_window c r)) (live_of_recording r) (live_of_recording (first_window c r)) (live_of_recording (second_window c r)) (live_of_recording (first_window c r)) (live_of_recording (second_window c r)) (live_of_recording r) c is is' joins, carried_is c r)

joins_both : (c : ℕ) (r : Recorded) (f g : ℕ → ℕ) → IsAdmissible (instance_of_recording (second_window c r)) g → Joins (instance_of_recording r) (live_of_recording r) c f g (one_after_other (live_of_recording r) c f g)
joins_both c r f g is = record {
  first = λ s lt passes. cond-true _ _ _ passes;
  second = λ s lt passes. let after : c < live_of_recording r s = ltb-true _ _ passes in cond-false _ _ _ (lt-leb (live_of_recording r s) c after);
  some = λ s lt passes.
      let part = second_part c r in
      let k = count_below s (is_after (live_of_recording r) c) in
      let there = picked_within (instance_of_recording r).stays s (is_after (live_of_recording r) c) lt passes in
      omega (arith, is.not_early k (omega (arith, part.part.stays, there)), part.arrival s lt passes);
}

pub both_admissible : (c : ℕ) (r : Recorded) (f g : ℕ → ℕ) → c ≤ r.rounds → IsAdmissible (instance_of_recording (first_window c r)) f → IsAdmissible (instance_of_recording (second_window c r)) g → IsAdmissible (instance_of_recording r) (one_after_other (live_of_recording r) c f g)
both_admissible c r f g within one two =
    admissible-joined (instance_of_recording r) (instance_of_recording (first_window c r)) (instance_of_recording (second_window c r)) (live_of_recording r) (live_of_recording (first_window c r)) (live_of_recording (second_window c r)) f g (one_after_other (live_of_recording r) c f g) c (first_part c r within) (second_part c r) one two (joins_both c r f g two)

pub both_cost : (c : ℕ) (r : Recorded) (f g : ℕ → ℕ) → c ≤ r.rounds → IsAdmissible (instance_of_recording (second_window c r)) g
    → cost (instance_of_recording r) (one_after_other (live_of_recording r) c f g) ≡ cost (instance_of_recording (first_window c r)) f + cost (instance_of_recording (second_window c r)) g + carried c r
both_cost c r f g within two =
    omega (arith, cost-joined (instance_of_recording r) (instance_of_recording (first_window c r)) (instance_of_recording (second_window c r)) (live_of_recording r) (live_of_recording (first_window c r)) (live_of_recording (second_window c r)) f g (one_after_other (live_of_recording r) c f g) c (first_part c r within) (second_part c r) (joins_both c r f g two), carried_is c r)

-- a schedule of the whole, whose cost and these excesses are what was recorded
record Finds (r : Recorded) (excess : ℕ) : Type 0 where
  schedule : ℕ → ℕ
  admissible : IsAdmissible (instance_of_recording r) schedule
  above : recorded_cost r ≡ cost (instance_of_recording r) schedule + excess

-- it shows that the excess of the whole is no less
no_less : (r : Recorded) (excess found : ℕ) → IsKept r → IsExcess r excess → Finds r found → found ≤ excess
no_less r excess found kept is finds =
    let least = best_where_proved (instance_of_recording r) (live_of_recording r) is.best is.prices (recording_net r kept).sound is.proved finds.schedule finds.admissible in
    let above = is.above in
    let above' = finds.above in
    omega arith

-- schedules of the windows, one after the other
finds_both : (c : ℕ) (r : Recorded) (first second : ℕ) → c ≤ r.rounds → Finds (first_window c r) first → Finds (second_window c r) second → Finds r (second + first)
finds_both c r first second within one two = record {
  schedule = one_after_other (live_of_recording r) c one.schedule two.schedule;
  admissible = both_admissible c r one.schedule two.schedule within one.admissible two.admissible;
  above = omega (arith, cost-parts c r within, both_cost c r one.schedule two.schedule within two.admissible, one.above, two.above);
}

finds_best : (r : Recorded) (excess : ℕ) → IsExcess r excess → Finds r excess
finds_best r excess is = record { schedule = is.best; admissible = is.proved.admissible; above = is.above }

pub excess-parts : (c : ℕ) (r : Recorded) (excess first second : ℕ) → c ≤ r.rounds → IsKept r → IsExcess r excess → IsExcess (first_window c r) first → IsExcess (second_window c r) second → first + second ≤ excess
excess-parts c r excess first second within kept whole one two =
    let h = no_less r excess (second + first) kept whole (finds_both c r first second within (finds_best (first_window c r) first one) (finds_best (second_window c r) second two)) in
    omega arith

-- ---- many windows

pub cost-windows : (cuts : List ℕ) (r : Recorded) → AreCuts r.rounds cuts → recorded_cost r ≡ sum_by recorded_cost (windows cuts r) + carried_in_all cuts r
cost-windows [] r are = omega (arith, sum_by-cons recorded_cost r [])
cost-windows (c ∷ cuts) r are =
    omega (arith, cost-parts c r (omega (arith, are.1)), cost-windows cuts (first_window c r) are.2, sum_by-cons recorded_cost (second_window c r) (windows cuts (first_window c r)))

finds_all : (cuts : List ℕ) (r : Recorded) (excesses : List ℕ) → AreCuts r.rounds cuts → AreExcesses (windows cuts r) excesses → Finds r (sum excesses)
finds_all [] r [] are is = absurd is
finds_all [] r (excess ∷ []) are is = subst (Finds r) (omega (arith, sum_by-cons (λ n. n) excess [])) (finds_best r excess is.0)
finds_all [] r (excess ∷ more ∷ excesses) are is = absurd is.1
finds_all (c ∷ cuts) r [] are is = absurd is
finds_all (c ∷ cuts) r (excess ∷ excesses) are is =
    subst (Finds r) (omega (arith, sum_by-cons (λ n. n) excess excesses))
    (finds_both c r (sum excesses) excess (omega (arith, are.1)) (finds_all cuts (first_window c r) excesses are.2 is.1) (finds_best (second_window c r) excess is.0))

pub excess-windows : (cuts : List ℕ) (r : Recorded) (excess : ℕ) (excesses : List ℕ) → AreCuts r.rounds cuts → IsKept r → IsExcess r excess → AreExcesses (windows cuts r) excesses → sum excesses ≤ excess
excess-windows cuts r excess excesses are kept whole is = no_less r excess (sum excesses) kept whole (finds_all cuts r excesses are is)
