-- how long stays waited for those of one number, and what that cost
use Rattle.std.specs.Prelude.{ℕ, ◌≤◌, ◌==◌, ◌+◌, ◌-◌, ◌*◌, Bool, false, true, max, List, map, count_by, sum_by, Option, Some, None, unwrap_or}
use Rattle.std.specs.List.{range_with_len}
use Rattle.std.specs.Option.{option_map}
use Rattle.wait_causes.specs.declared.origin.Origin.{Origin}
use Rattle.wait_causes.specs.Tables.{number}
use Rattle.wait_causes.specs.declared.table.Grouping.{Grouping}
use Rattle.wait_causes.specs.declared.explained_stay.ExplainedStay.{ExplainedStay}
use Rattle.wait_causes.specs.InTheWay.{in_way}
pub use Rattle.wait_causes.specs.declared.blame.amounts.Amounts.{Amounts}

-- the number of who was in the way of a device's stays in a round
abbrev pub who : Origin → List ExplainedStay → Grouping → ℕ → ℕ → Option ℕ
who o stays by d r = option_map (number by) (in_way o stays d r)

-- it is this one; nobody's number is none
abbrev pub is_who : Option ℕ → Option ℕ → Bool
is_who None None = true
is_who (Some m) (Some n) = m == n
is_who _ _ = false

-- how many of the rounds of a device, from one to the one before another, had one of that number in the way
abbrev pub rounds_for : (ℕ → ℕ → Option ℕ) → Option ℕ → ℕ → ℕ → ℕ → ℕ
rounds_for who m d from to = count_by (is_who m) (map (who d) (range_with_len from (to - from)))

-- the round from which on a stay need not have waited: where the best schedule at the recorded pace sends it, or else the best one
abbrev pub due : ExplainedStay → ℕ
due s = max s.arrival (unwrap_or s.pace s.best)

abbrev pub waited_for : (ℕ → ℕ → Option ℕ) → Option ℕ → ExplainedStay → ℕ
waited_for who m s = rounds_for who m s.device s.arrival s.live

abbrev pub avoidable_for : (ℕ → ℕ → Option ℕ) → Option ℕ → ExplainedStay → ℕ
avoidable_for who m s = rounds_for who m s.device (due s) s.live

abbrev pub cost_for : (ℕ → ℕ → Option ℕ) → Option ℕ → ExplainedStay → ℕ
cost_for who m s = s.weight * waited_for who m s

-- what stays waited for those of a number
abbrev pub amounts_of : (ℕ → ℕ → Option ℕ) → Option ℕ → List ExplainedStay → Amounts
amounts_of who m stays = record {
  waited = sum_by (waited_for who m) stays;
  avoidable = sum_by (avoidable_for who m) stays;
  cost = sum_by (cost_for who m) stays;
}

-- one more stay
abbrev pub with_stay : (ℕ → ℕ → Option ℕ) → Option ℕ → Amounts → ExplainedStay → Amounts
with_stay who m a s = record { waited = a.waited + waited_for who m s; avoidable = a.avoidable + avoidable_for who m s; cost = a.cost + cost_for who m s }

-- how large they are at most
pub record IsSmall (most : ℕ) (a : Amounts) : Type 0 where
  pub waited : a.waited ≤ most
  pub avoidable : a.avoidable ≤ most
  pub cost : a.cost ≤ most
