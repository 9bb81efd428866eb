-- the latest stay of each CCB
use Rattle.std.specs.Prelude.{ℕ, ◌-◌, ◌==◌, Bool, List, length, map, find, reverse, Option}
use Rattle.std.specs.List.{position_or_len}
use Rattle.xpt_core.specs.Words.{ccbs, stays_begun, Event, Passage}

abbrev pub is_of : ℕ → Passage → Bool
is_of ccb p = p.ccb == ccb

-- the CCB's latest stay, if it was submitted
unfoldable pub latest_stay : List Event → ℕ → Option Passage
latest_stay events ccb = find (is_of ccb) (reverse (stays_begun events))

-- where that stands among all stays
unfoldable pub latest_place : List Event → ℕ → ℕ
latest_place events ccb = length (stays_begun events) - 1 - position_or_len (is_of ccb) (reverse (stays_begun events))

-- those places, by the number of the CCB
unfoldable pub latest_places : List Event → List ℕ
latest_places events = map (latest_place events) (ccbs events)
