-- room that is left in rounds, and rounds that are passed over
use Rattle.std.specs.Prelude.{◌≡◌, ℕ, ◌+◌, ◌*◌, ◌<◌, ◌≤◌, Bool, false, nat_lt, List, length, slice_index}
use Rattle.std.specs.List.{list_all}
use Rattle.round_net.specs.Instance.{Instance, rows, path_of}
use Rattle.round_net.specs.Rows.{cell}

-- by a list of loads, a row has fewer stays in the round than it takes
abbrev pub has_opening : Instance → List ℕ → ℕ → ℕ → Bool
has_opening net loads r row = nat_lt (slice_index loads (cell net.rounds row r)) (net.cap row r)

-- so has each row of which a command to the device takes an opening
abbrev pub has_room : Instance → List ℕ → ℕ → ℕ → Bool
has_room net loads d r = list_all (has_opening net loads r) (path_of net d)

-- the device has no room in the rounds from one on and before another
abbrev pub HasNoRoom : Instance → List ℕ → ℕ → ℕ → ℕ → Type 0
HasNoRoom net loads d from to = (r : ℕ) → from ≤ r → r < to → r ≤ net.rounds → has_room net loads d r ≡ false

-- For each round of each device there is a number of rounds that may be passed over from it on, since the device has no room in
-- them.
pub record AreSkips (net : Instance) (loads skips : List ℕ) : Type 0 where
  pub cells : length skips ≡ rows net * net.rounds
  pub ends : (d r : ℕ) → d < net.devices → 1 ≤ r → r ≤ net.rounds → r + slice_index skips (cell net.rounds d r) ≤ net.rounds + 1
  pub full : (d r : ℕ) → d < net.devices → 1 ≤ r → r ≤ net.rounds → HasNoRoom net loads d r (r + slice_index skips (cell net.rounds d r))
