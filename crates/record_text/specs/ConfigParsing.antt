-- How rows are read as a configuration, one after the other: weights, links, adapters, devices, lanes.
use Rattle.std.specs.Prelude.{◌≡◌, ℕ, ◌+◌, ◌<◌, ◌≤◌, Bool, true, false, nat_le, nat_lt, if◌then◌else◌, List, [], ◌∷◌, ◌++◌, length, map, Option, Some, None, Result, Ok, Err}
use Rattle.cam_types.specs.Topology.{Topology, IsPartial, link_fault, adapter_fault, device_fault, lane_fault}
use Rattle.cam_types.specs.Weights.{weight_fault, reaches_last, standard_weights}
use Rattle.cam_types.specs.declared.limits.TheConstants.{MAX_ADAPTERS}
use Rattle.cam_types.specs.declared.weight_row.WeightRow.{WeightRow}
pub use Rattle.cam_types.specs.declared.config.ConfigError.{ConfigError}
use Rattle.cam_types.specs.declared.config.ConfigError.TheVariants as error
use Rattle.cam_types.specs.declared.config_fault.ConfigFault.{ConfigFault}
use Rattle.cam_types.specs.declared.config_fault.ConfigFault.TheVariants.{NoAdapters, BadWeight}
pub use Rattle.record_text.specs.declared.config_parser.ConfigParser.{ConfigParser}
pub use Rattle.record_text.specs.declared.config_row.ConfigRow.{ConfigRow}
use Rattle.record_text.specs.declared.config_row.ConfigRow.TheVariants as row
use Rattle.record_text.specs.ConfigRows.{device_of, weight_row, link_row, adapter_row, device_row, lane_row}
use Rattle.record_text.specs.Text.{Row}

-- nothing yet: rows of weights are due
abbrev pub empty_table : ConfigParser
empty_table = record { rank = 0; table = true; partial = record { weights = []; links = []; adapters = []; devices = []; lanes = [] } }

-- the standard weights alone
abbrev pub standard_table : ConfigParser
standard_table = record { rank = 0; table = false; partial = record { weights = standard_weights; links = []; adapters = []; devices = []; lanes = [] } }

-- where a row stands
abbrev pub row_rank : ConfigRow → ℕ
row_rank (row.Weight w) = 0
row_rank (row.Link openings) = 1
row_rank (row.Sim a) = 2
row_rank (row.Dev d) = 3
row_rank (row.Lane adapter) = 4

-- the least rank of the rows that may come next: a row of weights after links is known as one
abbrev pub next_rank : ConfigParser → ℕ
next_rank c = if nat_le c.rank 1 then 0 else c.rank

-- no adapter has come
abbrev pub lacks_adapters : ConfigParser → Bool
lacks_adapters c = nat_lt c.rank 2

-- what is lacking where no adapter has come
abbrev pub lacking : ConfigParser → ConfigFault
lacking c = if reaches_last c.partial.weights then NoAdapters else BadWeight

-- the rows of weights that came
abbrev pub given : ConfigParser → List WeightRow
given c = if c.table then c.partial.weights else []

-- how many rows of weights and links came
abbrev pub rows_before : ConfigParser → ℕ
rows_before c = (if c.table then length c.partial.weights else 0) + length c.partial.links

-- the rule that one row more breaks
abbrev pub row_fault : ConfigParser → ConfigRow → Option ConfigFault
row_fault c (row.Weight w) = if nat_lt 0 c.rank then Some (lacking c) else weight_fault (given c, w)
row_fault c (row.Link openings) = if reaches_last c.partial.weights then link_fault (c.partial.links, openings) else Some BadWeight
row_fault c (row.Sim a) = if reaches_last c.partial.weights then adapter_fault (length c.partial.links) (c.partial.adapters, a) else Some BadWeight
row_fault c (row.Dev d) = if lacks_adapters c then Some (lacking c) else device_fault (length c.partial.adapters) (c.partial.devices, device_of d)
row_fault c (row.Lane adapter) = if lacks_adapters c then Some (lacking c) else lane_fault (length c.partial.adapters) (c.partial.lanes, adapter)

-- the configuration with one row more
abbrev pub pushed : ConfigParser → ConfigRow → ConfigParser
pushed c (row.Weight w) = record { rank = 0; table = true; partial = record c.partial { weights = given c ++ w ∷ [] } }
pushed c (row.Link openings) = record { rank = 1; table = c.table; partial = record c.partial { links = c.partial.links ++ openings ∷ [] } }
pushed c (row.Sim a) = record { rank = 2; table = c.table; partial = record c.partial { adapters = c.partial.adapters ++ a ∷ [] } }
pushed c (row.Dev d) = record { rank = 3; table = c.table; partial = record c.partial { devices = c.partial.devices ++ device_of d ∷ [] } }
pushed c (row.Lane adapter) = record { rank = 4; table = c.table; partial = record c.partial { lanes = c.partial.lanes ++ adapter ∷ [] } }

-- unless a rule is broken
abbrev pub unless_fault : Option ConfigFault → ConfigParser → Result ConfigParser ConfigError
unless_fault None c = Ok c
unless_fault (Some fault) c = Err (error.Fault fault)

unfoldable pub with_row : ConfigParser → ConfigRow → Result ConfigParser ConfigError
with_row c r = unless_fault (row_fault c r) (pushed c r)

-- the configuration, or what it lacks
abbrev pub finished : ConfigParser → Result Topology ConfigFault
finished c = if lacks_adapters c then Err (lacking c) else Ok c.partial

-- no row breaks a rule, and none stands after one of a greater rank
pub record IsOrdered (c : ConfigParser) : Type 0 where
  pub partial : IsPartial c.partial
  pub standard : c.table ≡ false → c.partial.weights ≡ standard_weights
  pub links : c.rank < 1 → c.partial.links ≡ []
  pub adapters : c.rank < 2 → c.partial.adapters ≡ []
  pub devices : c.rank < 3 → c.partial.devices ≡ []
  pub lanes : c.rank < 4 → c.partial.lanes ≡ []
  pub reaches : 0 < c.rank → reaches_last c.partial.weights ≡ true
  pub some : 1 < c.rank → 0 < length c.partial.adapters
  pub few : length c.partial.adapters ≤ MAX_ADAPTERS

-- ---- how rows are spelled

-- the row that says this
abbrev pub spelled_row : ConfigRow → Row
spelled_row (row.Weight w) = weight_row w
spelled_row (row.Link openings) = link_row openings
spelled_row (row.Sim a) = adapter_row a
spelled_row (row.Dev d) = device_row (device_of d)
spelled_row (row.Lane adapter) = lane_row adapter

-- the rows of weights, where they are written
abbrev pub weight_rows : Bool → List WeightRow → List Row
weight_rows table weights = if table then map weight_row weights else []

-- the rows of a configuration, with its rows of weights or without, and those after them
abbrev pub rows_then : Bool → Topology → List Row → List Row
rows_then table t rest =
    weight_rows table t.weights ++ (map link_row t.links ++ (map adapter_row t.adapters ++ (map device_row t.devices ++ (map lane_row t.lanes ++ rest))))
