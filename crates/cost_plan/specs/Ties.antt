-- Which of several best schedules is answered.
use Rattle.std.specs.Prelude.{◌≡◌, ℕ, ◌<◌}
use Rattle.cost_plan.specs.Words.{Instance}
use Rattle.price_check.specs.Verdicts.{IsBest}

-- the live schedule, where no admissible one costs less than it
abbrev pub KeepsLive : Instance → (ℕ → ℕ) → (ℕ → ℕ) → Type 0
KeepsLive net live f = IsBest net live → (s : ℕ) → s < net.stays → f s ≡ live s
