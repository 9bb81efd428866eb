-- what the runs of all settings come to
use Rattle.std.specs.Prelude.{◌≡◌, ℕ, ◌+◌, ◌-◌, ◌*◌, ◌/◌, ◌%◌, ◌<◌, Bool, true, false, List, [], length, map, count_by, slice_index, slice_index_or, get_or, take, drop}
use Rattle.std.specs.List.Sorted.{IsPermutation, IsNonDecreasing}
use Rattle.trace_file.specs.Scenarios.{Scenario}
use Rattle.sweep.specs.Settings.{Change}
use Rattle.sweep.specs.Changes.{changed_script}
use Rattle.sweep.specs.Runs.{Tally, Numbers}
use Rattle.sweep.specs.declared.runner.Tally.TheVariants as tally
pub use Rattle.sweep.specs.declared.row.Spread.{Spread}
pub use Rattle.sweep.specs.declared.row.Figures.{Figures}
pub use Rattle.sweep.specs.declared.row.Row.{Row}
use Rattle.sweep.specs.declared.row.Row.TheVariants as row
use Rattle.sweep.specs.declared.row.Measure.{Measure}
use Rattle.sweep.specs.declared.row.Measure.TheVariants.{Live, Best, Excess, Waited, Left}

-- of the numbers in rising order the first, the one of nearest rank to the half, and the last
pub record IsSpread (numbers : List ℕ) (s : Spread) : Type 0 where
  pub sorted : List ℕ
  pub same : IsPermutation numbers sorted
  pub rising : IsNonDecreasing sorted
  pub least_is : s.least ≡ slice_index sorted 0
  pub median_is : s.median ≡ slice_index sorted ((length sorted + 1) / 2 - 1)
  pub greatest_is : s.greatest ≡ slice_index sorted (length sorted - 1)

-- a run that didn't drain
abbrev pub is_left : Tally → Bool
is_left (tally.Drained n) = false
is_left (tally.Left k) = true

-- what is taken of a run: of one that didn't drain only what it left
abbrev pub measured : Measure → Tally → ℕ
measured Live (tally.Drained n) = n.live
measured Best (tally.Drained n) = n.best
measured Excess (tally.Drained n) = n.live - n.best
measured Waited (tally.Drained n) = n.p99
measured Left (tally.Drained n) = 0
measured Live (tally.Left k) = 0
measured Best (tally.Left k) = 0
measured Excess (tally.Left k) = 0
measured Waited (tally.Left k) = 0
measured Left (tally.Left k) = k

-- the spreads of what runs cost that drained
pub record AreFigures (tallies : List Tally) (f : Figures) : Type 0 where
  pub live : IsSpread (map (measured Live) tallies) f.live
  pub best : IsSpread (map (measured Best) tallies) f.best
  pub excess : IsSpread (map (measured Excess) tallies) f.excess
  pub p99 : IsSpread (map (measured Waited) tallies) f.p99

-- the row of these runs: they all drained; or how many didn't, and what was left
abbrev pub IsRowOf : List Tally → Row → Type 0
IsRowOf tallies (row.Drained f) = (count_by is_left tallies ≡ 0) × AreFigures tallies f
IsRowOf tallies (row.Undrained runs left) = (0 < runs) × (runs ≡ count_by is_left tallies) × IsSpread (map (measured Left) tallies) left

-- a row of the runs of a script by each of the seeds from 1 to this one, each once
pub record IsRowFor (comes : ℕ → Tally → Type 0) (seeds : ℕ) (r : Row) : Type 0 where
  pub tallies : List Tally
  pub long : length tallies ≡ seeds
  pub each : (j : ℕ) (d : Tally) → j < seeds → comes (j + 1) (slice_index_or tallies j d)
  pub row : IsRowOf tallies r

-- a row for each setting, in order: of the runs of the script that the setting changes, and nothing else
pub record AreRowsOf (comes : Scenario → ℕ → Tally → Type 0) (s : Scenario) (seeds : ℕ) (settings : List (List Change)) (rows : List Row) : Type 0 where
  pub long : length rows ≡ length settings
  pub each : (k : ℕ) (d : Row) → k < length settings → IsRowFor (comes (changed_script s (get_or settings k []))) seeds (slice_index_or rows k d)

-- the runs of a setting, of all runs in a row
abbrev pub part : List Tally → ℕ → ℕ → List Tally
part tallies seeds k = take seeds (drop (k * seeds) tallies)

-- ---- the runs in a row: those of the first setting by rising seed, then those of the second, and so on

abbrev pub IsRunAt : (Scenario → ℕ → Tally → Type 0) → Scenario → ℕ → List (List Change) → ℕ → Tally → Type 0
IsRunAt comes s seeds settings at t = comes (changed_script s (get_or settings (at / seeds) [])) (at % seeds + 1) t

pub record AreRunsOf (comes : Scenario → ℕ → Tally → Type 0) (s : Scenario) (seeds : ℕ) (settings : List (List Change)) (tallies : List Tally) : Type 0 where
  pub long : length tallies ≡ length settings * seeds
  pub each : (i : ℕ) (d : Tally) → i < length settings * seeds → IsRunAt comes s seeds settings i (slice_index_or tallies i d)
