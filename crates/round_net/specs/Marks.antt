-- what is noted of each round while the places of a history are gone through
use Rattle.std.specs.Prelude.{◌≡◌, ℕ, ◌*◌, ◌<◌, ◌≤◌, Bool, false, not, ◌&&◌, ◌||◌, ◌==◌, if◌then◌else◌, List, length, slice_index, slice_index_or}
use Rattle.round_net.specs.Words.{Topology, Event}
use Rattle.round_net.specs.Rows.{cell}
use Rattle.round_net.specs.Caps.{resource_count, is_free, openings_in, sends_in}

-- a round of a row is marked
abbrev pub is_marked : List Bool → ℕ → ℕ → ℕ → Bool
is_marked marks rounds row r = slice_index_or marks (cell rounds row r) false

-- of each cell its sends where it is marked, and else its openings
abbrev pub AreCaps : List Bool → List ℕ → List ℕ → List ℕ → Type 0
AreCaps frozen sends openings caps =
    (length caps ≡ length frozen) × ((at : ℕ) → at < length frozen → slice_index caps at ≡ (if slice_index_or frozen at false then slice_index sends at else slice_index openings at))

-- rows in which this round is marked too, where the test of the row says so
abbrev pub Marks : ℕ → ℕ → List Bool → List Bool → ℕ → (ℕ → Bool) → Type 0
Marks rows rounds old new now test =
    (row r : ℕ) → row < rows → 1 ≤ r → r ≤ rounds → is_marked new rounds row r ≡ (is_marked old rounds row r || ((r == now) && test row))

-- rows in which this round has a new number
abbrev pub Sets : ℕ → ℕ → List ℕ → List ℕ → ℕ → (ℕ → ℕ) → Type 0
Sets rows rounds old new now value =
    (row r : ℕ) → row < rows → 1 ≤ r → r ≤ rounds → slice_index new (cell rounds row r) ≡ (if r == now then value row else slice_index old (cell rounds row r))

-- the rounds in which a row was frozen are marked, and its openings and its sends stand there
pub record IsNoted (c : Topology) (events : List Event) (rounds : ℕ) (frozen : List Bool) (openings sends : List ℕ) : Type 0 where
  pub marked : (row r : ℕ) → row < resource_count c → 1 ≤ r → r ≤ rounds → is_marked frozen rounds row r ≡ not (is_free c events row r)
  pub opened : (row r : ℕ) → row < resource_count c → 1 ≤ r → r ≤ rounds → slice_index openings (cell rounds row r) ≡ openings_in c events row r
  pub sent : (row r : ℕ) → row < resource_count c → 1 ≤ r → r ≤ rounds → slice_index sends (cell rounds row r) ≡ sends_in c events row r

-- there is a cell for each round of each row
pub record HasCells (c : Topology) (rounds : ℕ) (frozen : List Bool) (openings sends : List ℕ) : Type 0 where
  pub marked : length frozen ≡ resource_count c * rounds
  pub opened : length openings ≡ resource_count c * rounds
  pub sent : length sends ≡ resource_count c * rounds
