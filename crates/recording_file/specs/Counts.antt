-- How many devices, adapters and links there are.
use Rattle.std.specs.Prelude.{length}
use Rattle.cam_types.specs.Topology.{Topology}
pub use Rattle.recording_file.specs.declared.counts.Counts.{Counts}

abbrev pub counts_of : Topology → Counts
counts_of c = record { devices = length c.devices; adapters = length c.adapters; links = length c.links }
