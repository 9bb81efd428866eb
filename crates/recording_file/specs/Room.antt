-- How many requests more each device, adapter and link could take in each round.
use Rattle.std.specs.Prelude.{◌≡◌, ℕ, ◌+◌, ◌-◌, ◌*◌, ◌<◌, ◌≤◌, ◌⊎◌, nat_lt, if◌then◌else◌, List, [], length, slice_index}
use Rattle.cam_types.specs.Topology.{Topology}
use Rattle.recording_file.specs.Caps.{Part, Cap, part_of, cap_in, PartKind}
use Rattle.recording_file.specs.declared.part.PartKind.TheVariants as kind
use Rattle.recording_file.specs.Recorded.{Recorded, Request, IsKept, load}

-- the row of a part in the table: 32 rows of devices, 8 of adapters, 4 of links
abbrev pub row_by : PartKind → ℕ → ℕ
row_by kind.Device n = n
row_by kind.Adapter n = 32 + n
row_by kind.Link n = 40 + n

abbrev pub row_of : Part → ℕ
row_of p = row_by p.kind p.number

abbrev pub rows_by : PartKind → ℕ
rows_by kind.Device = 32
rows_by kind.Adapter = 8
rows_by kind.Link = 4

-- the part of a row
abbrev pub part_in : ℕ → Part
part_in row = if nat_lt row 32 then part_of kind.Device row else if nat_lt row 40 then part_of kind.Adapter (row - 32) else part_of kind.Link (row - 40)

-- the place of a part's round in the table
abbrev pub cell_of : ℕ → Part → ℕ → ℕ
cell_of rounds p round = row_of p * rounds + (round - 1)

-- a part and a round have a place
pub record IsCell (rounds : ℕ) (p : Part) (round : ℕ) : Type 0 where
  pub part : p.number < rows_by p.kind
  pub some : 1 ≤ round
  pub most : round ≤ rounds

-- a table of cells that hold these numbers
pub record Holds (rounds : ℕ) (f : Part → ℕ → ℕ) (cells : List ℕ) : Type 0 where
  pub size : length cells ≡ 44 * rounds
  pub each : (p : Part) (round : ℕ) → IsCell rounds p round → slice_index cells (cell_of rounds p round) ≡ f p round

-- in each place, what these requests leave of the cap
pub record IsRoom (rounds : ℕ) (c : Topology) (caps : List Cap) (requests : List Request) (cells : List ℕ) : Type 0 where
  pub size : length cells ≡ 44 * rounds
  pub room : (p : Part) (round : ℕ) → IsCell rounds p round → slice_index cells (cell_of rounds p round) + load c requests p round ≡ cap_in c caps p round

-- a table has no cell or all of them
abbrev pub IsSized : ℕ → List ℕ → Type 0
IsSized rounds cells = (length cells ≡ 0) ⊎ (length cells ≡ 44 * rounds)

-- the table beside these requests: it has no cell before the first one
pub record IsTable (rounds : ℕ) (c : Topology) (caps : List Cap) (requests : List Request) (cells : List ℕ) : Type 0 where
  pub none : length cells ≡ 0 → requests ≡ []
  pub room : 0 < length cells → IsRoom rounds c caps requests cells

-- what a recorder keeps: the rules, and the table
pub record IsRecorder (r : Recorded) (cells : List ℕ) : Type 0 where
  pub kept : IsKept r
  pub table : IsTable r.rounds r.config r.caps r.requests cells

-- a cap that can be laid over the table
pub record IsLaid (rounds : ℕ) (cap : Cap) : Type 0 where
  pub part : cap.part.number < rows_by cap.part.kind
  pub some : 1 ≤ cap.first
  pub order : cap.first ≤ cap.last
  pub last : cap.last ≤ rounds
