-- Of several best schedules, the live one.
use Rattle.std.proofs.Common.{◌≡◌, ℕ, ◌+◌, ◌*◌, ◌-◌, ◌<◌, ◌≤◌, ap, ◌∙◌, inl, inr, arith}
use Rattle.round_net.proofs.SumLemmas.{sum_below-same}
use Rattle.price_check.proofs.DualityLemmas.{best_where_proved}
use Rattle.cost_plan.specs.Words.{Instance, IsSound, cost, Pricing, ProvesBest, offered}
use Rattle.cost_plan.specs.InTurn.{TakesTurns}
use Rattle.cost_plan.proofs.LoadLemmas.{IsAdmissible-same}

cost-same : (net : Instance) (f g : ℕ → ℕ) → ((s : ℕ) → s < net.stays → g s ≡ f s) → cost net g ≡ cost net f
cost-same net f g agree = sum_below-same net.stays _ _ (λ s less. ap (λ (q : ℕ). net.weight s * (q - net.arrival s)) (agree s less))

-- where the live schedule costs no more, a plan's prices prove it too
pub proved-live : (net : Instance) (live f g : ℕ → ℕ) (p : Pricing) → IsSound net live → ProvesBest net f p → cost net live ≤ cost net f → ((s : ℕ) → s < net.stays → g s ≡ live s) → ProvesBest net g p
proved-live net live f g p sound proved no_more agree =
    let same : cost net f ≡ cost net g = omega (arith, no_more, cost-same net live g agree, best_where_proved net live f p sound proved live sound.live_admissible) in
    record {
      admissible = IsAdmissible-same net live g agree sound.live_admissible;
      tight = proved.tight ∙ ap (λ n. n + offered net p) same;
    }

-- the live schedule is in turn
pub TakesTurns-live : (net : Instance) (live f : ℕ → ℕ) → ((s : ℕ) → s < net.stays → f s ≡ live s) → TakesTurns net live f
TakesTurns-live net live f agree = λ s t first second like allowed before could. elim before [
  | inl less ↦ omega (arith, agree s first, agree t second)
  | inr same ↦ omega (arith, agree s first, agree t second, same.0)
]
