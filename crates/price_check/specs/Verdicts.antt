-- what a checker answers
use Rattle.std.specs.Prelude.{◌≡◌, ℕ, ◌+◌, ◌<◌, ◌≤◌, List, Some, slice_get}
use Rattle.price_check.specs.Words.{Stay, Instance, IsAdmissible, cost, Pricing, paid, offered, ProvesBest}
use Rattle.price_check.specs.Faults.{IsFirstFault, Cause}
use Rattle.price_check.specs.declared.verdict.Verdict.{Verdict}
use Rattle.price_check.specs.declared.verdict.Verdict.TheVariants.{Proved, Gap, NotAdmissible}

-- The schedule is admissible, and its cost is so much, and not 0, above the value of the prices.
pub record IsGap (net : Instance) (f : ℕ → ℕ) (p : Pricing) (gap : ℕ) : Type 0 where
  pub admissible : IsAdmissible net f
  pub some : 0 < gap
  pub above : cost net f + offered net p ≡ paid net p + gap

-- the stay of this name is the first one with whose place something is wrong
pub record IsRefused (net : Instance) (names : List Stay) (f : ℕ → ℕ) (stay : Stay) (cause : Cause) : Type 0 where
  pub number : ℕ
  pub named : slice_get names number ≡ Some stay
  pub first : IsFirstFault net f number cause

-- what a verdict on a schedule and prices means, where these are the stays
abbrev pub Means : Instance → List Stay → (ℕ → ℕ) → Pricing → Verdict → Type 0
Means net names f p Proved = ProvesBest net f p
Means net names f p (Gap gap) = IsGap net f p gap
Means net names f p (NotAdmissible stay cause) = IsRefused net names f stay cause

-- no admissible schedule costs less
abbrev pub IsBest : Instance → (ℕ → ℕ) → Type 0
IsBest net f = (g : ℕ → ℕ) → IsAdmissible net g → cost net f ≤ cost net g
