-- the rows of the CCBs by number: a slot for each that is alive, and the handle of each that was submitted
use Rattle.std.specs.Prelude.{◌≡◌, ℕ, ◌^◌, ◌<◌, ◌≤◌, Bool, List, [], ◌∷◌, ◌++◌, length, map, Option, Some, is_some, count_by, get_or, All, IfSome}
use Rattle.std.specs.Option.{option_map_or}
use Rattle.xpt_core.specs.Words.{Handle, Table, find, held_count, is_some_and, ccb_of, submission_of, Event}
use Rattle.xpt_core.specs.Change.{fresh, updated_at, IsSmall, Ccb}

-- the rows, for how many CCBs at once there are slots, and for how many in all there is memory
pub record RowTable : Type 0 where
  pub rows : List (Option Ccb)
  pub slots : ℕ
  pub room : ℕ

-- what is found under the handles
abbrev pub rows_in : Table Ccb → List Handle → List (Option Ccb)
rows_in slots handles = map (find slots) handles

-- a CCB that is in flight
abbrev pub is_row_in_flight : Option Ccb → Bool
is_row_in_flight row = is_some_and (λ (r : Ccb). r.in_flight) row

-- handles are numbered by their places, and the slots hold what they find
pub record IsTable (slots : Table Ccb) (handles : List Handle) (room in_flight : ℕ) : Type 0 where
  pub numbered : (k : ℕ) (d : Handle) → k < length handles → (get_or handles k d).number ≡ k
  pub taken : slots.taken ≡ length handles
  pub held : held_count slots ≡ count_by is_some (rows_in slots handles)
  pub counted : in_flight ≡ count_by is_row_in_flight (rows_in slots handles)
  pub few : length handles ≤ room
  pub range : room < 2 ^ 32

-- the rows after an event
abbrev pub updated : Event → List (Option Ccb) → List (Option Ccb)
updated event rows =
    option_map_or (λ s. rows ++ Some (fresh s) ∷ []) (submission_of event) (option_map_or (updated_at event rows) (ccb_of event) rows)

-- a legal event finds counters and rows with room for it
pub record CanUpdate (event : Event) (t : RowTable) : Type 0 where
  pub small : All IsSmall t.rows
  pub alive : IfSome (submission_of event) (λ _. count_by is_some t.rows < t.slots)
  pub room : IfSome (submission_of event) (λ _. length t.rows < t.room)
