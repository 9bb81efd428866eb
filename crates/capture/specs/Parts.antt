-- the devices, adapters and links in their order
use Rattle.std.specs.Prelude.{ℕ, ◌++◌, List, length, map}
use Rattle.std.specs.List.{range_with_len}
use Rattle.cam_types.specs.Topology.{Topology}
use Rattle.recording_file.specs.Caps.{part_of}
use Rattle.recording_file.specs.declared.part.Part.{Part}
use Rattle.recording_file.specs.declared.part.PartKind.{PartKind}
use Rattle.recording_file.specs.declared.part.PartKind.TheVariants as kind

-- all of a kind
abbrev pub parts_of_kind : PartKind → ℕ → List Part
parts_of_kind k n = map (part_of k) (range_with_len 0 n)

-- devices, then adapters, then links
unfoldable pub all_parts : Topology → List Part
all_parts c = parts_of_kind kind.Device (length c.devices) ++ (parts_of_kind kind.Adapter (length c.adapters) ++ parts_of_kind kind.Link (length c.links))
