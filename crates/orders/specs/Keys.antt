-- the keys by which the stays of a net are sorted
use Rattle.std.specs.Prelude.{◌≡◌, ℕ, ◌-◌, ◌<◌, true, List, length, map, slice_index}
use Rattle.std.specs.List.{range_with_len}
use Rattle.round_net.specs.Instance.{Instance}
use Rattle.orders.specs.Orders.{goes_before}
use Rattle.orders.specs.declared.key.Key.{Key}
use Rattle.orders.specs.declared.order.Order.{Order}
use Rattle.orders.specs.declared.order.Order.TheVariants.{FirstCome, ByWeight}

-- by weight what it lacks of the greatest number of 32 bits, so that the greater weight is less; else nothing
abbrev pub lightness : Order → Instance → ℕ → ℕ
lightness FirstCome net s = 0
lightness ByWeight net s = 4294967295 - net.weight s

-- what a stay is sorted by
abbrev pub key_of : Order → Instance → ℕ → Key
key_of order net s = record { lightness = lightness order net s; arrival = net.arrival s; stay = s }

-- the keys of all stays, by their numbers
abbrev pub all_keys : Order → Instance → List Key
all_keys order net = map (key_of order net) (range_with_len 0 net.stays)

-- all stays of a net, each of which goes before those that come after it
pub record AreInOrder (order : Order) (net : Instance) (stays : List ℕ) : Type 0 where
  pub long : length stays ≡ net.stays
  pub within : (i : ℕ) → i < net.stays → slice_index stays i < net.stays
  pub place : (s : ℕ) → s < net.stays → (i : ℕ) × (i < net.stays) × (slice_index stays i ≡ s)
  pub before : (i j : ℕ) → i < j → j < net.stays → goes_before order net (slice_index stays i) (slice_index stays j) ≡ true
