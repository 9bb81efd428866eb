-- What contracts see of a `CcbTable`: a finite map from handles to values.
use Rattle.std.specs.Prelude.{◌≡◌, ◌≢◌, ℕ, ◌<◌, ◌≤◌, ◌==◌, if◌then◌else◌, List, Option, Some, None, is_some, count_by, slice_index_or, slice_set}
pub use Rattle.cam_ccb.specs.declared.handle.Handle.{Handle}
use Rattle.cam_ccb.specs.declared.table.Held.{Held}

-- what each slot holds, how many values there may be, and how many were taken in so far
pub record Table (T : Type 0) : Type 0 where
  pub slots : List (Option (Held T))
  pub capacity : ℕ
  pub taken : ℕ

module _ {T : Type 0} where
  -- the value in a slot that holds this number
  abbrev pub value_numbered : ℕ → Option (Held T) → Option T
  value_numbered number None = None
  value_numbered number (Some held) = if held.number == number then Some held.value else None

  -- the value under a handle; a stale one has none
  abbrev pub find : Table T → Handle → Option T
  find t handle = value_numbered handle.number (slice_index_or t.slots handle.slot None)

  -- how many values there are
  abbrev pub held_count : Table T → ℕ
  held_count t = count_by is_some t.slots

  -- this handle finds this now, and each other handle what it found before
  pub record Updates (old new : Table T) (handle : Handle) (found : Option T) : Type 0 where
    pub changed : find new handle ≡ found
    pub others : (other : Handle) → other ≢ handle → find new other ≡ find old other

  -- the table with another value under a handle that has one
  abbrev pub with_value : Table T → Handle → T → Table T
  with_value t handle value = record t { slots = slice_set t.slots handle.slot (Some (record { number = handle.number; value = value })) }

  -- the slot's number, if it holds one, was taken before
  abbrev pub IsTaken : ℕ → Option (Held T) → Type 0
  IsTaken taken None = Unit {0}
  IsTaken taken (Some held) = held.number < taken

  -- slots that hold a table
  pub record IsSound (slots : List (Option (Held T))) (capacity taken memory : ℕ) : Type 0 where
    pub numbers : (slot : ℕ) → IsTaken taken (slice_index_or slots slot None)
    pub room : count_by is_some slots ≤ capacity
    pub memory_for : capacity ≤ memory
