-- What a schedule and its loads are while it is made better.
use Rattle.std.specs.Prelude.{◌≡◌, ℕ, ◌+◌, ◌*◌, ◌<◌, ◌≤◌, List, length, slice_index}
use Rattle.cost_plan.specs.Words.{Instance, rows, load}
use Rattle.cost_plan.specs.declared.working_schedule.WorkingSchedule.{WorkingSchedule}
use Rattle.cost_plan.specs.Cells.{cell, part_load, rounds_of}

-- for each cell, how many of the first stays it has
pub record AreLoads (net : Instance) (f : ℕ → ℕ) (n : ℕ) (loads : List ℕ) : Type 0 where
  pub size : length loads ≡ rows net * (net.rounds + 1)
  pub counts : (resource r : ℕ) → resource < rows net → r ≤ net.rounds → slice_index loads (cell net resource r) ≡ part_load net f n resource r

-- a round of the net for each stay, and how many stays each cell has
pub record IsWorkingSchedule (net : Instance) (rounds loads : List ℕ) : Type 0 where
  pub long : length rounds ≡ net.stays
  pub within : (s : ℕ) → s < net.stays → rounds_of rounds s ≤ net.rounds
  pub loads_are : AreLoads net (rounds_of rounds) net.stays loads

abbrev pub IsWorkingScheduleOf : Instance → WorkingSchedule → Type 0
IsWorkingScheduleOf net working = IsWorkingSchedule net working.rounds.items working.loads.items

-- the round of each stay in a working schedule
abbrev pub schedule_of : WorkingSchedule → ℕ → ℕ
schedule_of working = rounds_of working.rounds.items

-- each of the first stays lies in its window
abbrev pub KeepWindows : Instance → (ℕ → ℕ) → ℕ → Type 0
KeepWindows net f n = (s : ℕ) → s < n → (net.arrival s ≤ f s) × (f s ≤ net.last s)

-- in each round before this one the resource has no more stays than it takes; so have the first resources in all rounds
abbrev pub KeepsResource : Instance → (ℕ → ℕ) → ℕ → ℕ → Type 0
KeepsResource net f resource here = (round : ℕ) → 1 ≤ round → round < here → load net f resource round ≤ net.cap resource round

abbrev pub KeepResources : Instance → (ℕ → ℕ) → ℕ → Type 0
KeepResources net f n = (resource : ℕ) → resource < n → KeepsResource net f resource (net.rounds + 1)
