-- tables of weights: what a round of waiting costs, by ranges of priorities
use Rattle.std.specs.Prelude.{ℕ, ◌==◌, Bool, nat_lt, nat_le, ◌&&◌, if◌then◌else◌, List, [], ◌∷◌, length, find, Option, Some, None}
use Rattle.std.specs.List.{list_all, list_any}
use Rattle.std.specs.Option.{option_map_or}
use lib.Pointwise.{pointwise}
pub use Rattle.cam_types.specs.declared.weight_row.WeightRow.{WeightRow}
use Rattle.cam_types.specs.declared.config_fault.ConfigFault.{ConfigFault}
use Rattle.cam_types.specs.declared.config_fault.ConfigFault.TheVariants.{BadWeight}
use Rattle.cam_types.specs.declared.limits.TheConstants.{MAX_PRIORITY, MAX_WEIGHT, MAX_WEIGHT_ROWS}

abbrev pub is_weight : ℕ → Bool
is_weight n = nat_le 1 n && nat_le n MAX_WEIGHT

-- the row's range has a priority after those of the rows before it
abbrev pub is_behind : List WeightRow → WeightRow → Bool
is_behind before row = list_all (λ (b : WeightRow). nat_lt b.last row.last) before

-- the rule that a row breaks, beside those before it
unfoldable pub weight_fault : List WeightRow × WeightRow → Option ConfigFault
weight_fault m =
    if nat_lt (length m.0) MAX_WEIGHT_ROWS && (is_behind m.0 m.1 && (nat_le m.1.last MAX_PRIORITY && is_weight m.1.weight)) then None
    else Some BadWeight

-- some range ends at the last priority
abbrev pub reaches_last : List WeightRow → Bool
reaches_last rows = list_any (λ (row : WeightRow). row.last == MAX_PRIORITY) rows

-- the weight of the first row whose range isn't over before a priority
abbrev pub weight_in : List WeightRow → ℕ → ℕ
weight_in rows priority = option_map_or (λ (row : WeightRow). row.weight) (find (λ (row : WeightRow). nat_le priority row.last) rows) 1

abbrev pub row_to : ℕ → ℕ → WeightRow
row_to last weight = record { last = last; weight = weight }

-- HOST 16, BUS 8, XPT 4, DEV 2, NORMAL 1
abbrev pub standard_weights : List WeightRow
standard_weights = row_to 255 16 ∷ row_to 511 8 ∷ row_to 767 4 ∷ row_to 1023 2 ∷ row_to 1279 1 ∷ []

abbrev pub is_same_row : WeightRow → WeightRow → Bool
is_same_row a b = (a.last == b.last) && (a.weight == b.weight)

abbrev pub are_standard : List WeightRow → Bool
are_standard rows = pointwise is_same_row rows standard_weights
