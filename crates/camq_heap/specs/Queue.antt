-- What contracts see of a `Camq`.
use Rattle.std.specs.Prelude.{ℕ, ◌+◌, ◌*◌, ◌^◌, ◌<◌, ◌≤◌, ◌==◌, Bool, List, Option, Some, None, length, slice_get, remove}
use Rattle.std.specs.List.{list_any, All}
pub use Rattle.camq_heap.specs.declared.entry.Entry.{Entry}
use Rattle.camq_heap.specs.Order.{place, AllApart}
use Rattle.camq_heap.specs.Heap.{IsHeap}

-- where an entry stands: by priority, then by generation, which is below 2 ^ 64
abbrev pub key : {T : Type 0} → Entry T → ℕ
key e = e.priority * 2 ^ 64 + e.generation

-- the entries, the most urgent first; how many there may be; how many were moved in the array by the last insert or removal of the first
pub record Queue (T : Type 0) : Type 0 where
  pub entries : List (Entry T)
  pub capacity : ℕ
  pub moved : ℕ

module _ {T : Type 0} where
  -- some entry has this generation
  abbrev pub has_generation : ℕ → List (Entry T) → Bool
  has_generation generation xs = list_any (λ e. e.generation == generation) xs

  -- the list and, where it stands then, an entry at this priority in place of the one given
  abbrev pub placed_at : ℕ → Option (Entry T) → List (Entry T) → List (Entry T)
  placed_at priority None xs = xs
  placed_at priority (Some e) xs = place key (record e { priority = priority }) xs

  -- the list in which the i-th entry has this priority instead, and stands where that puts it
  abbrev pub change_priority : List (Entry T) → ℕ → ℕ → List (Entry T)
  change_priority xs i priority = placed_at priority (slice_get xs i) (remove xs i)

  -- an array that holds a queue of this capacity, in memory for that many entries
  pub record IsSound (xs : List (Entry T)) (capacity memory : ℕ) : Type 0 where
    pub heap : IsHeap key xs
    pub apart : AllApart (λ e. e.generation) xs
    pub fits : All (λ e. e.generation < 2 ^ 64) xs
    pub room : length xs ≤ capacity
    pub memory_for : capacity ≤ memory
