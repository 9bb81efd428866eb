-- The words of configurations and histories that the records of a trace are about.
use Rattle.std.specs.Prelude.{Bool, List, Option}
use Rattle.event_rules.specs.Legal as legal
use Rattle.event_rules.specs.Refusals as refusals
pub use Rattle.cam_types.specs.Topology.{Topology, config_fault, unlinked}
unfoldable pub use Rattle.cam_types.specs.Topology.{link_fault, adapter_fault, device_fault, lane_fault}
unfoldable pub use Rattle.cam_types.specs.Weights.{weight_fault}
pub use Rattle.cam_types.specs.Weights.{reaches_last, standard_weights}
pub use Rattle.cam_types.specs.declared.weight_row.WeightRow.{WeightRow}
pub use Rattle.cam_types.specs.declared.adapter.Adapter.{Adapter}
pub use Rattle.cam_types.specs.declared.device.Device.{Device}
pub use Rattle.cam_types.specs.declared.flags.Flags.{Flags}
pub use Rattle.cam_types.specs.declared.outcome.Outcome.{Outcome}
pub use Rattle.cam_types.specs.declared.config_fault.ConfigFault.{ConfigFault}
pub use Rattle.cam_types.specs.declared.config_fault.ConfigFault.TheVariants.{NoAdapters, BadWeight}
pub use Rattle.event_rules.specs.declared.event.Event.{Event}
pub use Rattle.event_rules.specs.Past.{Past}
pub use Rattle.event_rules.specs.declared.refusal.Refusal.{Refusal}

-- by the rules of a history
abbrev pub refusal : Topology → List Event → Event → Option Refusal
refusal c before event = refusals.refusal legal.history_rules c before event

abbrev pub is_legal_event : Topology → List Event × Event → Bool
is_legal_event c m = legal.is_legal_event legal.history_rules c m

abbrev pub is_legal : Topology → List Event → Bool
is_legal c events = legal.is_legal legal.history_rules c events
