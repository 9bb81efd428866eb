-- the changes that are worth a try
use Rattle.std.specs.Prelude.{ℕ, ◌+◌, ◌-◌, ◌==◌, Bool, nat_lt, nat_le, ◌&&◌, if◌then◌else◌, List, [], ◌∷◌, ◌++◌}
use Rattle.std.specs.List.{list_any, flat_map, range_with_len}
use Rattle.round_net.specs.Instance.{Instance, rows, uses}
use Rattle.round_net.specs.Rows.{NetRows, instance_of_rows, live_of_rows}
use Rattle.round_net.specs.Schedules.{load}
use Rattle.round_net.specs.Sums.{count_below}
use Rattle.what_if.specs.Changes.{Change, Resource, Device, Adapter, Link, More, Times, NeverStopped}

-- how many of the stays that use a row wait in a round: they have arrived, and are sent in a later one
unfoldable pub waiting_at : Instance → (ℕ → ℕ) → ℕ → ℕ → ℕ
waiting_at net live row r = count_below net.stays (λ s. uses net row s && (nat_le (net.arrival s) r && nat_lt r (live s)))

-- one of them waits in a round in which the row took all that it takes, which may be nothing; and in one in which it takes nothing
abbrev pub is_full : Instance → (ℕ → ℕ) → ℕ → ℕ → Bool
is_full net live row r = nat_lt 0 (waiting_at net live row r) && (load net live row r == net.cap row r)

abbrev pub is_stopped : Instance → (ℕ → ℕ) → ℕ → ℕ → Bool
is_stopped net live row r = nat_lt 0 (waiting_at net live row r) && (net.cap row r == 0)

-- there is such a round
abbrev pub is_ever_full : Instance → (ℕ → ℕ) → ℕ → Bool
is_ever_full net live row = list_any (is_full net live row) (range_with_len 1 net.rounds)

abbrev pub is_ever_stopped : Instance → (ℕ → ℕ) → ℕ → Bool
is_ever_stopped net live row = list_any (is_stopped net live row) (range_with_len 1 net.rounds)

-- the resource that has a row
abbrev pub resource_at : Instance → ℕ → Resource
resource_at net row =
    if nat_lt row net.devices then Device row
    else (if nat_lt row (net.devices + net.adapters) then Adapter (row - net.devices)
    else Link (row - (net.devices + net.adapters)))

-- what is worth a try of a resource that is full in such a round: one more, and twice as many
abbrev pub more_if : Resource → Bool → List Change
more_if resource full = if full then record { resource = resource; widening = More 1 } ∷ record { resource = resource; widening = Times 2 } ∷ [] else []

-- and of one that takes nothing in such a round: never stopped
abbrev pub never_stopped_if : Resource → Bool → List Change
never_stopped_if resource stopped = if stopped then record { resource = resource; widening = NeverStopped } ∷ [] else []

-- of one resource
abbrev pub tries_of : Instance → (ℕ → ℕ) → ℕ → List Change
tries_of net live row = let resource = resource_at net row in more_if resource (is_ever_full net live row) ++ never_stopped_if resource (is_ever_stopped net live row)

-- of each device, adapter and link, in order
unfoldable pub worth_trying : NetRows → List Change
worth_trying n = flat_map (tries_of (instance_of_rows n) (live_of_rows n)) (range_with_len 0 (rows (instance_of_rows n)))
