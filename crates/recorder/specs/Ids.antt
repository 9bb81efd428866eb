-- ids in their order, and how the newest place of one is found
use Rattle.std.specs.Prelude.{◌≡◌, ◌≢◌, ℕ, ◌-◌, ◌≤◌, ◌<◌, ◌^◌, ◌%◌, List, length, slice_index}

-- the ids, and how many there is room for
pub record IdList : Type 0 where
  pub ids : List ℕ
  pub room : ℕ

-- the newest place of an id
pub record IsPlace (id : ℕ) (ids : List ℕ) (place : ℕ) : Type 0 where
  pub within : place < length ids
  pub is : slice_index ids place ≡ id
  pub newest : (j : ℕ) → place < j → j < length ids → slice_index ids j ≢ id

abbrev pub IsAbsent : ℕ → List ℕ → Type 0
IsAbsent id ids = (j : ℕ) → j < length ids → slice_index ids j ≢ id

-- of so many ids, this number goes up to the newest one that has a remainder
pub record IsUpTo (size remainder : ℕ) (ids : List ℕ) (count upto : ℕ) : Type 0 where
  pub most : upto ≤ count
  pub newest : (j : ℕ) → upto ≤ j → j < count → slice_index ids j % size ≢ remainder
  pub is : 0 < upto → slice_index ids (upto - 1) % size ≡ remainder

pub record IsIndex (ids heads earlier : List ℕ) : Type 0 where
  pub some : 0 < length heads
  pub size : length earlier ≡ length ids
  pub by_remainder : (r : ℕ) → r < length heads → IsUpTo (length heads) r ids (length ids) (slice_index heads r)
  pub before : (i : ℕ) → i < length ids → IsUpTo (length heads) (slice_index ids i % length heads) ids i (slice_index earlier i)

-- the fields of `Ids`
pub record AreIds (ids heads earlier : List ℕ) (room space : ℕ) : Type 0 where
  pub index : IsIndex ids heads earlier
  pub within : length ids ≤ room
  pub fits : room ≤ space
  pub few : room < 2 ^ 32
