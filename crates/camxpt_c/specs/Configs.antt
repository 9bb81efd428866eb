-- the configuration of the lists that C hands in
use Rattle.std.specs.Prelude.{ℕ, List, [], map, ◌==◌, if◌then◌else◌, Some, None}
use Rattle.cam_types.specs.Topology.{Topology, unlinked}
use Rattle.cam_types.specs.declared.adapter.Adapter.{Adapter}
use Rattle.cam_types.specs.declared.device.Device.{Device}
use Rattle.cam_types.specs.Weights.{standard_weights}
use Rattle.cam_types.specs.declared.weight_row.WeightRow.{WeightRow}
use Rattle.cam_types.specs.Bounds.{Bounds}
use Rattle.camxpt_c.specs.declared.configs.TheConstants.{NO_LINK}
use Rattle.camxpt_c.specs.declared.shapes.CamxptAdapter.{CamxptAdapter}
use Rattle.camxpt_c.specs.declared.shapes.CamxptDevice.{CamxptDevice}
use Rattle.camxpt_c.specs.declared.shapes.CamxptLimits.{CamxptLimits}
use Rattle.camxpt_c.specs.declared.shapes.CamxptWeight.{CamxptWeight}

abbrev pub device_of : CamxptDevice → Device
device_of d = record { bus = d.bus; target = d.target; lun = d.lun; openings = d.openings }

-- an adapter is on the link of its number, or on none
abbrev pub adapter_of : CamxptAdapter → Adapter
adapter_of a = record { openings = a.openings; link = if a.link == NO_LINK then None else Some a.link }

abbrev pub weight_of : CamxptWeight → WeightRow
weight_of w = record { last = w.last; weight = w.weight }

abbrev pub bounds_of : CamxptLimits → Bounds
bounds_of l = record { ccbs = l.ccbs; rounds = l.rounds; stays = l.stays; events = l.events }

-- adapters of these openings on no link, with the standard table of weights
abbrev pub plain_topology : List ℕ → List CamxptDevice → List ℕ → Topology
plain_topology adapters devices lanes = record {
  weights = standard_weights;
  links = [];
  adapters = map unlinked adapters;
  devices = map device_of devices;
  lanes = lanes;
}

-- with a table of weights, and with links
abbrev pub linked_topology : List CamxptWeight → List ℕ → List CamxptAdapter → List CamxptDevice → List ℕ → Topology
linked_topology weights links adapters devices lanes = record {
  weights = map weight_of weights;
  links = links;
  adapters = map adapter_of adapters;
  devices = map device_of devices;
  lanes = lanes;
}
