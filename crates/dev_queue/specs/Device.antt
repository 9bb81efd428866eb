-- What contracts see of a `DevQueue`: the queue of one device.
use Rattle.std.specs.Prelude.{ℕ, ◌+◌, ◌==◌, Bool, not, ◌&&◌, nat_lt, nat_le, if◌then◌else◌, List, [], ◌∷◌, length, fold}
pub use Rattle.dev_queue.specs.declared.waiting.Waiting.{Waiting}

-- one more CCB in the queue, after each that is as urgent
abbrev pub enter : List Waiting → Waiting → List Waiting
enter [] w = w ∷ []
enter (x ∷ xs) w = if nat_le x.priority w.priority then x ∷ enter xs w else w ∷ x ∷ xs

-- more CCBs in the queue, one after another
abbrev pub enter_all : List Waiting → List Waiting → List Waiting
enter_all xs ws = fold enter xs ws

-- the queue of a device
pub record Device : Type 0 where
  -- the CCBs that wait, in the order in which they are sent
  pub waiting : List Waiting
  -- those that enter when the next round opens, in the order of their requeueing
  pub later : List Waiting
  -- how many of both there may be
  pub capacity : ℕ
  -- how many commands may be sent in this round, and in the next
  pub openings : ℕ
  pub next_openings : ℕ
  -- how many were sent in this round
  pub sent : ℕ
  -- how many sent commands haven't completed
  pub in_flight : ℕ
  -- the freezes by callers, and those by errors
  pub callers : ℕ
  pub errors : ℕ
  -- how many CCBs were put in so far, those for a next round among them
  pub entered : ℕ

-- how many CCBs the device holds
abbrev pub held_count : Device → ℕ
held_count d = length d.waiting + length d.later

-- a freeze of either kind holds
abbrev pub is_frozen : Device → Bool
is_frozen d = not (d.callers + d.errors == 0)

-- a CCB waits, none is kept back, and an opening of this round is left
abbrev pub is_ready : Device → Bool
is_ready d = not (length d.waiting == 0) && (not (is_frozen d) && nat_lt d.sent d.openings)
