-- Where a request stands in the table of room.
use Rattle.std.specs.Prelude.{ℕ, ◌-◌, ◌==◌, ◌<◌, if◌then◌else◌, List, slice_index, slice_set, Option, Some, None, IfSome, option_map}
use Rattle.cam_types.specs.Topology.{Topology}
use Rattle.cam_types.specs.Questions.{device_adapter, adapter_link}
use Rattle.recording_file.specs.declared.part.PartKind.TheVariants as kind
use Rattle.recording_file.specs.Recorded.{RequestFault, DeviceFull, AdapterFull, LinkFull}
pub use Rattle.recording_file.specs.declared.places.Places.{Places}
use Rattle.recording_file.specs.Caps.{part_of}
use Rattle.recording_file.specs.Room.{cell_of}

-- the places of a device, its adapter and that one's link in a round
abbrev pub places_of : ℕ → Topology → ℕ → ℕ → Places
places_of rounds c device round =
    let adapter = device_adapter c device in
    record {
      device = cell_of rounds (part_of kind.Device device) round;
      adapter = cell_of rounds (part_of kind.Adapter adapter) round;
      link = option_map (λ l. cell_of rounds (part_of kind.Link l) round) (adapter_link c adapter);
    }

-- each is below this
pub record AreWithin (size : ℕ) (p : Places) : Type 0 where
  pub device : p.device < size
  pub adapter : p.adapter < size
  pub link : IfSome p.link (λ at. at < size)

-- which of them has no room, if one has none
abbrev pub link_full : List ℕ → Option ℕ → Option RequestFault
link_full cells None = None
link_full cells (Some at) = if slice_index cells at == 0 then Some LinkFull else None

abbrev pub full_at : List ℕ → Places → Option RequestFault
full_at cells p =
    if slice_index cells p.device == 0 then Some DeviceFull
    else if slice_index cells p.adapter == 0 then Some AdapterFull
    else link_full cells p.link

-- a cell with one less
abbrev pub one_less : List ℕ → ℕ → List ℕ
one_less cells at = slice_set cells at (slice_index cells at - 1)

abbrev pub link_taken : List ℕ → Option ℕ → List ℕ
link_taken cells None = cells
link_taken cells (Some at) = one_less cells at

-- each of them with one less
abbrev pub taken_at : List ℕ → Places → List ℕ
taken_at cells p = link_taken (one_less (one_less cells p.device) p.adapter) p.link
