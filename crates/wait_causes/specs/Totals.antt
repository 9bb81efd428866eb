-- what is counted of the rounds before each one
use Rattle.std.specs.Prelude.{ℕ, ◌==◌, if◌then◌else◌, nat_lt, List, map, Option, Some, None}
use Rattle.std.specs.List.{range_with_len}
use Rattle.wait_causes.specs.Behind.{Behind, LessUrgent, Equal, MoreUrgent}
use Rattle.wait_causes.specs.Origins.{Origin, instance_in, live_in}
use Rattle.wait_causes.specs.Sends.{AreSends, Sends}

-- for each of that many rounds what is counted of those before it, the first of them round 1
unfoldable pub totals_by : {X T : Type 0} → (List X → T) → (ℕ → X) → ℕ → List T
totals_by count of rounds = map (λ before. count (map of (range_with_len 1 before))) (range_with_len 0 rounds)

-- what the rows of its net sent
abbrev pub AreSendsOf : Origin → List Sends → Type 0
AreSendsOf o sends = AreSends (instance_in o) (live_in o) (instance_in o).stays sends

-- what a stay of a weight waits behind, by the least weight that was sent
abbrev pub least_behind : Option ℕ → ℕ → Behind
least_behind None w = MoreUrgent
least_behind (Some v) w = if nat_lt v w then LessUrgent else if v == w then Equal else MoreUrgent
