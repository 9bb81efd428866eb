-- which round of the rest of all rounds is cheapest for stays of one device and one weight
use Rattle.std.specs.Prelude.{◌≡◌, ℕ, ◌+◌, ◌*◌, ◌<◌, ◌≤◌, Bool, true, false, nat_lt, List, slice_index, sum_by}
use Rattle.std.specs.List.{list_all}
use Rattle.price_check.specs.Words.{MAX_WEIGHT, Instance, path_of, cell, Pricing}

-- each row of which a command to the device takes an opening takes commands in the round
abbrev pub takes : Instance → ℕ → ℕ → Bool
takes net d r = list_all (λ row. nat_lt 0 (net.cap row r)) (path_of net d)

-- what a stay of the device and weight would pay in the round, if it had waited from a round 0 on
abbrev pub pays : Instance → Pricing → ℕ → ℕ → ℕ → ℕ
pays net p w d r = w * r + sum_by (λ row. p row r) (path_of net d)

-- The round is the cheapest for such stays, of those from one round on in which they could be sent; where there is none, it
-- is 0.
pub record IsCheapest (net : Instance) (p : Pricing) (w d from round : ℕ) : Type 0 where
  pub within : round ≤ net.rounds
  pub none : round ≡ 0 → (r : ℕ) → from ≤ r → r ≤ net.rounds → takes net d r ≡ false
  pub late : 0 < round → from ≤ round
  pub taken : 0 < round → takes net d round ≡ true
  pub least : 0 < round → (r : ℕ) → from ≤ r → r ≤ net.rounds → takes net d r ≡ true → pays net p w d round ≤ pays net p w d r

-- of the devices below a number, the list has that round for each round of each
pub record AreCheapest (net : Instance) (p : Pricing) (w devices : ℕ) (rests : List ℕ) : Type 0 where
  pub each : (d r : ℕ) → d < devices → 1 ≤ r → r ≤ net.rounds → IsCheapest net p w d r (slice_index rests (cell net.rounds d r))

-- the least weight above a number, of the first that many stays; 0 if there is none
pub record IsNextWeight (net : Instance) (above n next : ℕ) : Type 0 where
  pub most : next ≤ MAX_WEIGHT
  pub above_it : 0 < next → above < next
  pub none : next ≡ 0 → (s : ℕ) → s < n → net.weight s ≤ above
  pub least : 0 < next → (s : ℕ) → s < n → above < net.weight s → next ≤ net.weight s
