-- what the net of a history says of its rows
use Rattle.std.proofs.Common.{◌≡◌, ℕ, ◌<◌, ◌≤◌, List, refl, ◌∙◌, None}
use Rattle.std.proofs.lemmas.List.{length-map}
use Rattle.cam_types.specs.Topology.{Topology, IsConfig, IsPartial, config_fault}
use Rattle.cam_types.specs.declared.adapter.Adapter.{Adapter}
use Rattle.cam_types.specs.declared.device.Device.{Device}
use Rattle.cam_types.proofs.ConfigLemmas.{weight_items, reaches, link_items, some_adapter, adapter_items, device_items}
use Rattle.cam_types.proofs.TopologyLemmas.{config_fault-partial}
use Rattle.event_rules.specs.Counts.{round}
use Rattle.event_rules.specs.declared.event.Event.{Event}
use Rattle.round_net.specs.Instance.{rows}
use Rattle.round_net.specs.Rows.{instance_of_rows}
use Rattle.round_net.specs.Caps.{resource_count, cap}
use Rattle.round_net.specs.Nets.{net_of, instance_of}
use Rattle.round_net.proofs.TableLemmas.{cell-table}
use Rattle.conversions.specs.Recorded.{without_lanes}

pub net_rows : (c : Topology) (es : List Event) → rows (instance_of c es) ≡ resource_count c
unfolding instance_of_rows net_of
net_rows c es = rw (length-map c.devices (λ (device : Device). device.bus), length-map c.adapters (λ (adapter : Adapter). adapter.link)) refl

pub net_rounds : (c : Topology) (es : List Event) → (instance_of c es).rounds ≡ round es
unfolding instance_of_rows net_of
net_rounds c es = refl

pub net_cap : (c : Topology) (es : List Event) (row r : ℕ) → row < resource_count c → 1 ≤ r → r ≤ round es → (instance_of c es).cap row r ≡ cap c es row r
unfolding instance_of_rows net_of
net_cap c es row r within some few = cell-table (resource_count c) (round es) (cap c es) row r within some few

-- a configuration keeps the rules without its lanes
pub without_lanes_kept : (c : Topology) → IsConfig c → config_fault (without_lanes c) ≡ None
without_lanes_kept c config =
    let partial : IsPartial (without_lanes c) = record { weights = weight_items c config; links = link_items c config; adapters = adapter_items c config; devices = device_items c config; lanes = refl } in
    config_fault-partial (without_lanes c) partial ∙ rw (reaches c config, some_adapter c config) refl
