-- the changes of the lowest level that has a gap
use Rattle.std.specs.Prelude.{◌≡◌, ℕ, ◌+◌, ◌-◌, ◌<◌, ◌≤◌, ◌^◌, nat_le, nat_lt, min, if◌then◌else◌, List, [], ◌∷◌, All, length, map}
use Rattle.std.specs.List.{flat_map, range_with_len}
use Rattle.std.specs.List.Sorted.{IsNonDecreasing, IsNonDecreasingBy}
use Rattle.slots.specs.Bounds.{up_to, AreInOrder}
use Rattle.slots.specs.Flights.{Flight, in_flight}
use Rattle.slots.specs.Gaps.{Wait, waiting, spare_of, round_at}
use Rattle.slots.specs.Tallies.{Clock}
pub use Rattle.slots.specs.declared.changes.Change.{Change}
pub use Rattle.slots.specs.declared.changes.Changes.{Changes}

-- the lowest level that has a gap if that many fly and wait, and the one above all slots if none has
abbrev pub lowest_idle : ℕ → ℕ → ℕ → ℕ
lowest_idle flying waiting slots = if nat_lt 0 waiting then min (slots + 1) (flying + 1) else slots + 1

-- the same at a time
abbrev pub lowest_at : List Flight → List Wait → ℕ → ℕ → ℕ
lowest_at fs ws slots t = lowest_idle (in_flight fs t) (waiting ws t) slots

-- how many have begun and not ended
abbrev pub open_at : List ℕ → List ℕ → ℕ → ℕ
open_at begins ends t = up_to begins t - up_to ends t

-- the lowest level at a time by the beginnings and ends of flights and of waits
unfoldable pub lowest_from : List ℕ → List ℕ → List ℕ → List ℕ → ℕ → ℕ → ℕ
lowest_from starts ends arrivals leaves slots t = lowest_idle (open_at starts ends t) (open_at arrivals leaves t) slots

-- the change at a time
abbrev pub change_by : List ℕ → List ℕ → List ℕ → List ℕ → ℕ → ℕ → Change
change_by starts ends arrivals leaves slots t = record { at = t; lowest = lowest_from starts ends arrivals leaves slots t }

-- the changes at all times of a device with that many slots
abbrev pub changes_in : Changes → ℕ → List Change
changes_in c slots = map (change_by c.held.begins.items c.held.ends.items c.waited.begins.items c.waited.ends.items slots) c.times.items

-- fewer than 2^32 flights, and all times in their order
pub record IsReady (c : Changes) : Type 0 where
  pub few : length c.held.begins.items < 2 ^ 32
  pub held : AreInOrder c.held.begins.items c.held.ends.items
  pub waited : AreInOrder c.waited.begins.items c.waited.ends.items
  pub order : IsNonDecreasing c.times.items

-- the lowest level by changes in their order, up to a time, from one on
abbrev pub lowest_by : List Change → ℕ → ℕ → ℕ
lowest_by [] lowest t = lowest
lowest_by (c ∷ cs) lowest t = if nat_le c.at t then lowest_by cs c.lowest t else lowest

-- the lowest level that has a gap at a time by all changes, and the one above all slots if none has
abbrev pub level_at : List Change → ℕ → ℕ → ℕ
level_at changes slots t = lowest_by changes (slots + 1) t

-- changes in their order, of the levels of that many slots
pub record AreLevels (slots : ℕ) (changes : List Change) : Type 0 where
  pub order : IsNonDecreasingBy (λ (c : Change). c.at) changes
  pub own : All (λ (c : Change). c.lowest ≡ level_at changes slots c.at) changes
  pub lowest : All (λ (c : Change). 1 ≤ c.lowest) changes
  pub highest : All (λ (c : Change). c.lowest ≤ slots + 1) changes

-- all changes of a device
pub record AreChanges (fs : List Flight) (ws : List Wait) (slots : ℕ) (changes : List Change) : Type 0 where
  pub levels : AreLevels slots changes
  pub each : (t : ℕ) → level_at changes slots t ≡ lowest_at fs ws slots t

-- no level has a gap from a time on
abbrev pub IsOver : (ℕ → ℕ) → ℕ → ℕ → Type 0
IsOver level slots last = (t : ℕ) → last ≤ t → slots < level t

-- the spare starts of all levels, by the lowest one that has a gap at each time
abbrev pub spare_by : (ℕ → ℕ) → ℕ → ℕ → ℕ → List ℕ
spare_by level slots service last = flat_map (λ k. spare_of service (λ t. nat_le (level t) k) last) (range_with_len 1 slots)

-- each time at which a level has a gap is in a round, and the next one too
pub record AreInRounds (level : ℕ → ℕ) (slots : ℕ) (clock : Clock) (rounds : ℕ) : Type 0 where
  pub begun : (t : ℕ) → level t ≤ slots → clock.begin ≤ t
  pub ended : (t : ℕ) → level t ≤ slots → round_at clock.span clock.begin (t + 1) ≤ rounds
