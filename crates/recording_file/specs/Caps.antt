-- Caps: how many requests a device, an adapter or a link takes in a round.
use Rattle.std.specs.Prelude.{ℕ, ◌==◌, Bool, true, nat_lt, nat_le, ◌&&◌, ◌||◌, List, find}
use Rattle.std.specs.Option.{option_map_or}
use Rattle.cam_types.specs.Topology.{Topology}
use Rattle.cam_types.specs.Questions.{device_openings, adapter_openings, link_openings}
pub use Rattle.recording_file.specs.declared.part.PartKind.{PartKind}
use Rattle.recording_file.specs.declared.part.PartKind.TheVariants as kind
pub use Rattle.recording_file.specs.declared.part.Part.{Part}
pub use Rattle.recording_file.specs.declared.cap.Cap.{Cap}
use Rattle.recording_file.specs.Counts.{Counts}
use Rattle.recording_file.specs.Names.{latest}

-- devices come before adapters, and these before links
abbrev pub part_rank : PartKind → ℕ
part_rank kind.Device = 0
part_rank kind.Adapter = 1
part_rank kind.Link = 2

abbrev pub part_of : PartKind → ℕ → Part
part_of k n = record { kind = k; number = n }

abbrev pub part_count : Counts → PartKind → ℕ
part_count c kind.Device = c.devices
part_count c kind.Adapter = c.adapters
part_count c kind.Link = c.links

abbrev pub is_same_part : Part → Part → Bool
is_same_part a b = (part_rank a.kind == part_rank b.kind) && (a.number == b.number)

abbrev pub is_part_before : Part → Part → Bool
is_part_before a b = nat_lt (part_rank a.kind) (part_rank b.kind) || ((part_rank a.kind == part_rank b.kind) && nat_lt a.number b.number)

-- a cap is over before a part's round: that of an earlier part, or of the same part in earlier rounds
abbrev pub is_over : Cap → Part → ℕ → Bool
is_over a p first = is_part_before a.part p || (is_same_part a.part p && nat_lt a.last first)

-- a part's first round comes after the caps before it
abbrev pub is_next_cap : List Cap → Part → ℕ → Bool
is_next_cap before p first = option_map_or (λ a. is_over a p first) (latest before) true

-- a cap of that many rounds, beside those before it: there is such a part, it comes after them, 1 <= first <= last <= rounds,
-- and it is for at most 65,535
unfoldable pub is_cap : ℕ → Counts → List Cap × Cap → Bool
is_cap rounds c m =
    nat_lt m.1.part.number (part_count c m.1.part.kind) && (is_next_cap m.0 m.1.part m.1.first
    && (nat_le 1 m.1.first && (nat_le m.1.first m.1.last && (nat_le m.1.last rounds && nat_le m.1.most 65535))))

-- the cap is the part's in a round
abbrev pub covers : Part → ℕ → Cap → Bool
covers p round cap = is_same_part cap.part p && (nat_le cap.first round && nat_le round cap.last)

-- how many the configuration lets a part take in a round; 0 where there is no such part
abbrev pub openings : Topology → Part → ℕ
openings c p = by p.kind p.number
  where
    by : PartKind → ℕ → ℕ
    by kind.Device n = device_openings c n
    by kind.Adapter n = adapter_openings c n
    by kind.Link n = link_openings c n

-- how many a part takes in a round at most: its openings, unless a cap says otherwise
abbrev pub cap_in : Topology → List Cap → Part → ℕ → ℕ
cap_in c caps p round = option_map_or (λ (cap : Cap). cap.most) (find (covers p round) caps) (openings c p)
