-- prices of the openings, and what they prove
use Rattle.std.specs.Prelude.{◌≡◌, ℕ, ◌+◌, ◌-◌, ◌*◌, Bool, nat_lt, List, map, filter, sum_by}
use Rattle.std.specs.List.{list_all, range_with_len}
use Rattle.round_net.specs.Sums.{sum_below, sum_to, least}
use Rattle.round_net.specs.Instance.{Instance, rows, path}
use Rattle.round_net.specs.Schedules.{IsAdmissible, cost}

-- what an opening of each row is worth in each round
abbrev pub Pricing : Type 0
Pricing = ℕ → ℕ → ℕ

-- each row that the stay uses takes commands in the round
abbrev pub is_open : Instance → ℕ → ℕ → Bool
is_open net s r = list_all (λ row. nat_lt 0 (net.cap row r)) (path net s)

-- the rounds of the stay's window in which it could be sent at all
abbrev pub allowed : Instance → ℕ → List ℕ
allowed net s = filter (is_open net s) (range_with_len (net.arrival s) (net.last s + 1 - net.arrival s))

-- what the stay pays in a round: its waiting, and the openings that it uses
abbrev pub priced : Instance → Pricing → ℕ → ℕ → ℕ
priced net p s r = net.weight s * (r - net.arrival s) + sum_by (λ row. p row r) (path net s)

-- what all stays pay, each in the round that is cheapest for it
abbrev pub paid : Instance → Pricing → ℕ
paid net p = sum_below net.stays (λ s. least (map (priced net p s) (allowed net s)))

-- what all openings are worth
abbrev pub offered : Instance → Pricing → ℕ
offered net p = sum_below (rows net) (λ row. sum_to net.rounds (λ r. net.cap row r * p row r))

-- The prices prove the schedule: it is admissible, and what all stays pay, less what all openings are worth, is its cost.
pub record ProvesBest (net : Instance) (f : ℕ → ℕ) (p : Pricing) : Type 0 where
  pub admissible : IsAdmissible net f
  pub tight : paid net p ≡ cost net f + offered net p
