-- what devices, adapters and links take in each round of a changed net
use Rattle.std.specs.Prelude.{ℕ, ◌+◌, ◌==◌, nat_lt, max, if◌then◌else◌, List, [], ◌∷◌, filter, map}
use Rattle.cam_types.specs.Topology.{Topology}
use Rattle.round_net.specs.Instance.{Instance, rows}
use Rattle.round_net.specs.Nets.{table}
use Rattle.round_net.specs.Pace.{with_caps}
use Rattle.round_net.specs.Rows.{NetRows, instance_of_rows}
use Rattle.what_if.specs.Changes.{Change, widened, row_of, openings_of}
use Rattle.what_if.specs.Below.{together, carried}

-- the changes of a row
abbrev pub changes_of : Instance → List Change → ℕ → List Change
changes_of net changes row = filter (λ (change : Change). row_of net change.resource == row) changes

-- the greatest of a number and those of a list
abbrev pub greatest : ℕ → List ℕ → ℕ
greatest n [] = n
greatest n (x ∷ xs) = max x (greatest n xs)

-- the greatest of what was taken and what each of these changes makes of it
unfoldable pub widest : Topology → List Change → ℕ → ℕ
widest c own most = greatest most (map (λ (change : Change). widened change.widening (openings_of c change.resource) most) own)

-- what a row takes in a round by its own changes
abbrev pub own_cap : Instance → Topology → List Change → ℕ → ℕ → ℕ
own_cap net c changes row r = widest c (changes_of net changes row) (net.cap row r)

-- what a device takes in a round, by its row: what its own changes give it
unfoldable pub device_cap : Instance → Topology → List Change → ℕ → ℕ → ℕ
device_cap net c changes row r = own_cap net c changes row r

-- what an adapter takes: what its own changes give it, and if it never limits the devices on it, at least what these take
-- together in the changed net
unfoldable pub adapter_cap : Instance → Topology → List Change → ℕ → ℕ → ℕ
adapter_cap net c changes row r = max (own_cap net c changes row r) (together (λ device. device_cap net c changes device r) (carried net row))

-- what a link takes: the same, by the adapters on it
unfoldable pub link_cap : Instance → Topology → List Change → ℕ → ℕ → ℕ
link_cap net c changes row r = max (own_cap net c changes row r) (together (λ adapter. adapter_cap net c changes adapter r) (carried net row))

-- what a row takes: those of the devices come first, then those of the adapters, then those of the links
unfoldable pub changed_cap : Instance → Topology → List Change → ℕ → ℕ → ℕ
changed_cap net c changes row r =
    if nat_lt row net.devices then device_cap net c changes row r
    else (if nat_lt row (net.devices + net.adapters) then adapter_cap net c changes row r
    else link_cap net c changes row r)

-- the net with these changes
unfoldable pub changed_net : NetRows → List Change → NetRows
changed_net n changes = with_caps n (table (rows (instance_of_rows n)) n.rounds (changed_cap (instance_of_rows n) n.config changes))
