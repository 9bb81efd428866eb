-- spare starts by their rounds
use Rattle.std.specs.Prelude.{◌≡◌, ℕ, ◌<◌, min, List, length, slice_index}
use Rattle.slots.specs.Gaps.{in_round}
pub use Rattle.slots.specs.declared.tally.Clock.{Clock}

-- the most spare starts that are counted in a round
abbrev pub MOST_SPARE : ℕ
MOST_SPARE = 65535

-- a row has in each round how many of these times are in it, up to the most that are counted
pub record IsRow (clock : Clock) (times : List ℕ) (row : List ℕ) : Type 0 where
  pub each : (round : ℕ) → round < length row → slice_index row round ≡ min MOST_SPARE (in_round clock.span clock.begin round times)

-- a row, and how many times there are in all
pub record IsTally (clock : Clock) (times : List ℕ) (row : List ℕ) (total : ℕ) : Type 0 where
  pub rows : IsRow clock times row
  pub all : total ≡ length times
