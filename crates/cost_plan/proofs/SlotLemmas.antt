-- Slots that are passed, and slots that change their holders.
use Rattle.std.proofs.Common.{◌≡◌, ◌≢◌, ℕ, ◌<◌, ◌≤◌, List, length, get_or, set, ap, ◌∙◌, inl, inr, arith, length-set, get_or-set_same, get_or-set_other}
use Rattle.std.proofs.lemmas.Bool.{cases_eq, cases_lt}
use Rattle.cost_plan.specs.Slots.{IsFree, AreGiven, Skips}

-- so far in the search for a free slot
pub record IsSeeking (holders : List ℕ) (turn : ℕ) (next : List ℕ) (from slot : ℕ) : Type 0 where
  pub free : ℕ
  pub before : slot ≤ free
  pub is : IsFree holders turn free
  pub later : from ≤ slot
  pub given : AreGiven holders turn from slot
  pub skips : Skips holders turn next
