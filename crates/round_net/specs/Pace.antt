-- the net at the recorded pace: where a device had room and a stay of it waited, it takes what was sent to it
use Rattle.std.specs.Prelude.{ℕ, ◌==◌, Bool, ◌&&◌, nat_lt, nat_le, if◌then◌else◌, List}
use Rattle.std.specs.List.{list_all}
use Rattle.round_net.specs.Sums.{count_below}
use Rattle.round_net.specs.Instance.{Instance, rows, path_of}
use Rattle.round_net.specs.Schedules.{load}
use Rattle.round_net.specs.Rows.{NetRows, instance_of_rows, live_of_rows}
use Rattle.round_net.specs.Nets.{table}

-- how many of a device's stays wait in a round: they have arrived, and are sent in a later one
unfoldable pub waiting : Instance → (ℕ → ℕ) → ℕ → ℕ → ℕ
waiting net live d r = count_below net.stays (λ s. (net.device s == d) && (nat_le (net.arrival s) r && nat_lt r (live s)))

-- fewer of a row's were sent in a round than it takes
abbrev pub is_spare : Instance → (ℕ → ℕ) → ℕ → ℕ → Bool
is_spare net live r row = nat_lt (load net live row r) (net.cap row r)

-- none of a device, its adapter and the adapter's link is full in a round
unfoldable pub has_room : Instance → (ℕ → ℕ) → ℕ → ℕ → Bool
has_room net live d r = list_all (is_spare net live r) (path_of net d)

-- what a row takes in a round: a device that has room where a stay of it waits takes what was sent to it, and any other row as
-- much as ever
unfoldable pub pace_cap : Instance → (ℕ → ℕ) → ℕ → ℕ → ℕ
pace_cap net live row r =
    if nat_lt row net.devices && (nat_lt 0 (waiting net live row r) && has_room net live row r) then load net live row r else net.cap row r

-- the same net with these caps
abbrev pub with_caps : NetRows → List ℕ → NetRows
with_caps n caps = record n { caps = caps }

-- the net at the recorded pace
unfoldable pub at_pace : NetRows → NetRows
at_pace n = with_caps n (table (rows (instance_of_rows n)) n.rounds (pace_cap (instance_of_rows n) (live_of_rows n)))

-- what there is to plan of it
abbrev pub instance_at_pace : NetRows → Instance
instance_at_pace n = instance_of_rows (at_pace n)
