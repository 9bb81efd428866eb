-- stays by adapter, device, driver or run level
use Rattle.std.specs.Prelude.{◌≡◌, ℕ, ◌+◌, ◌==◌, max, if◌then◌else◌, List, [], ◌∷◌, filter, flat_map, fold, length, map, Vec}
use Rattle.std.specs.Global.{Global}
use Rattle.std.specs.List.{range_with_len}
use Rattle.wait_causes.specs.Origins.{Known}
use Rattle.wait_causes.specs.Parts.{part_of}
use Rattle.wait_causes.specs.Stays.{ExplainedStay}
pub use Rattle.wait_causes.specs.declared.table.Grouping.{Grouping}
use Rattle.wait_causes.specs.declared.table.Grouping.TheVariants.{Adapter, Device, Driver, Level}
use Rattle.wait_causes.specs.declared.table.Row as table

-- the number by which a stay is grouped
abbrev pub number : Grouping → ExplainedStay → ℕ
number Adapter s = s.adapter
number Device s = s.device
number Driver s = s.driver
number Level s = s.level

-- the stays of a number
abbrev pub stays_of : Grouping → List ExplainedStay → ℕ → List ExplainedStay
stays_of by stays n = filter (λ s. number by s == n) stays

-- the row of some stays, if there are some
unfoldable pub row_for : Known → ℕ → List ExplainedStay → List table.Row
row_for known n part = if length part == 0 then [] else record { number = n; part = part_of known part } ∷ []

-- the row of a number, if it has a stay
abbrev pub row_of : Known → Grouping → List ExplainedStay → ℕ → List table.Row
row_of known by stays n = row_for known n (stays_of by stays n)

-- the greatest number of some stays, and 0 of none
unfoldable pub greatest : Grouping → List ExplainedStay → ℕ
greatest by stays = fold (λ n s. max n (number by s)) 0 stays

-- the rows in ascending order
unfoldable pub table_of : Known → Grouping → List ExplainedStay → List table.Row
table_of known by stays = flat_map (row_of known by stays) (range_with_len 0 (greatest by stays + 1))

-- each of that many numbers has the list of its stays
abbrev pub AreGroups : Grouping → ℕ → List ExplainedStay → List (Vec ExplainedStay Global) → Type 0
AreGroups by count stays groups = map (λ (v : Vec ExplainedStay Global). v.items) groups ≡ map (stays_of by stays) (range_with_len 0 count)
