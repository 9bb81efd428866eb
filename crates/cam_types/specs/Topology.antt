use Rattle.std.specs.Prelude.{◌≡◌, ℕ, ◌==◌, Bool, true, nat_lt, nat_le, not, ◌&&◌, if◌then◌else◌, List, Option, Some, None, length, count_by}
use Rattle.std.specs.List.{list_any}
use Rattle.std.specs.Option.{option_or, option_map_or}
use Rattle.cam_types.specs.Lists.{prefixed, first_answer}
use Rattle.cam_types.specs.Weights.{weight_fault, reaches_last, WeightRow}
pub use Rattle.cam_types.specs.declared.adapter.Adapter.{Adapter}
pub use Rattle.cam_types.specs.declared.device.Device.{Device}
use Rattle.cam_types.specs.declared.config_fault.ConfigFault.{ConfigFault}
pub use Rattle.cam_types.specs.declared.config_fault.ConfigFault.TheVariants.{NoAdapters, TooMany, BadOpenings, NoAdapter, BadAddress, DoubleDevice, BadWeight, NoLink}
pub use Rattle.cam_types.specs.declared.limits.TheConstants.{MAX_LINKS, MAX_ADAPTERS, MAX_DEVICES, MAX_LANES, MAX_OPENINGS, MAX_LUN, MAX_BYTES, MAX_CCBS, MAX_EVENTS, MAX_FREEZES, MAX_PRIORITY, MAX_RETRIES, MAX_ROUNDS, MAX_SENSE, MAX_STAYS, MAX_WEIGHT, MAX_WEIGHT_ROWS}

-- what there is: the table of weights, each link's openings, the adapters, the devices, and each lane's adapter
pub record Topology : Type 0 where
  pub weights : List WeightRow
  pub links : List ℕ
  pub adapters : List Adapter
  pub devices : List Device
  pub lanes : List ℕ

abbrev pub are_openings : ℕ → Bool
are_openings n = nat_lt 0 n && nat_le n MAX_OPENINGS

abbrev pub is_same_address : Device → Device → Bool
is_same_address d e = (d.bus == e.bus) && (d.target == e.target) && (d.lun == e.lun)

-- an adapter of that many openings that is on no link
abbrev pub unlinked : ℕ → Adapter
unlinked openings = record { openings = openings; link = None }

-- an adapter is on no link, or on one of that many
abbrev pub names_link : ℕ → Option ℕ → Bool
names_link links link = option_map_or (λ l. nat_lt l links) link true

-- the first rule that an item of that many openings breaks, after that many others, where there may be that many
abbrev pub openings_fault : ℕ → ℕ → ℕ → Option ConfigFault
openings_fault most before openings =
    if nat_le most before then Some TooMany
    else if not (are_openings openings) then Some BadOpenings
    else None

-- the first rule that a link breaks, beside those before it
unfoldable pub link_fault : List ℕ × ℕ → Option ConfigFault
link_fault m = openings_fault MAX_LINKS (length m.0) m.1

-- the first rule that an adapter breaks, beside those before it, where there are that many links
unfoldable pub adapter_fault : ℕ → List Adapter × Adapter → Option ConfigFault
adapter_fault links m =
    option_or (openings_fault MAX_ADAPTERS (length m.0) m.1.openings) (if names_link links m.1.link then None else Some NoLink)

-- the first rule that a device's address breaks, beside the devices before it, where there are that many adapters
unfoldable pub address_fault : ℕ → List Device × Device → Option ConfigFault
address_fault adapters m =
    if nat_le adapters m.1.bus then Some NoAdapter
    else if nat_lt MAX_LUN m.1.lun then Some BadAddress
    else if list_any (is_same_address m.1) m.0 then Some DoubleDevice
    else None

-- the first rule that a device breaks, beside those before it, where there are that many adapters
unfoldable pub device_fault : ℕ → List Device × Device → Option ConfigFault
device_fault adapters m =
    if nat_le MAX_DEVICES (length m.0) then Some TooMany
    else if not (are_openings m.1.openings) then Some BadOpenings
    else address_fault adapters m

-- the first rule that a lane breaks, beside those before it, where there are that many adapters
unfoldable pub lane_fault : ℕ → List ℕ × ℕ → Option ConfigFault
lane_fault adapters m =
    if nat_le MAX_LANES (count_by (λ a. a == m.1) m.0) then Some TooMany
    else if nat_le adapters m.1 then Some NoAdapter
    else None

-- weights that don't go up to the last priority, or no adapter, are lacking for a configuration
abbrev pub weight_lack : List WeightRow → Option ConfigFault
weight_lack weights = if reaches_last weights then None else Some BadWeight

abbrev pub adapter_lack : ℕ → Option ConfigFault
adapter_lack adapters = if adapters == 0 then Some NoAdapters else None

abbrev pub lack : List WeightRow → ℕ → Option ConfigFault
lack weights adapters = option_or (weight_lack weights) (adapter_lack adapters)

-- the first rule that is broken by some device or lane, in this order, where there are that many adapters
unfoldable pub unit_fault : ℕ → List Device → List ℕ → Option ConfigFault
unit_fault adapters devices lanes =
    option_or (first_answer (device_fault adapters) (prefixed devices))
    (first_answer (lane_fault adapters) (prefixed lanes))

-- the first rule that is broken, in this order: by a row of the table of weights, by its end, by a link, by there being no
-- adapter, and by an adapter, a device or a lane
abbrev pub config_fault : Topology → Option ConfigFault
config_fault t =
    option_or (first_answer weight_fault (prefixed t.weights))
    (option_or (weight_lack t.weights)
    (option_or (first_answer link_fault (prefixed t.links))
    (option_or (adapter_lack (length t.adapters))
    (option_or (first_answer (adapter_fault (length t.links)) (prefixed t.adapters))
    (unit_fault (length t.adapters) t.devices t.lanes)))))

-- no weight's row, link, adapter, device or lane breaks a rule; there may be none of them
pub record IsPartial (t : Topology) : Type 0 where
  pub weights : first_answer weight_fault (prefixed t.weights) ≡ None
  pub links : first_answer link_fault (prefixed t.links) ≡ None
  pub adapters : first_answer (adapter_fault (length t.links)) (prefixed t.adapters) ≡ None
  pub devices : first_answer (device_fault (length t.adapters)) (prefixed t.devices) ≡ None
  pub lanes : first_answer (lane_fault (length t.adapters)) (prefixed t.lanes) ≡ None

-- the rules are kept
pub record IsConfig (t : Topology) : Type 0 where
  pub kept : config_fault t ≡ None
