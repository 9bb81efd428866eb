-- the receipts of one history, and how the receipts of seats fit it
use Rattle.std.specs.Prelude.{◌≡◌, ℕ, ◌<◌, ◌≤◌, ◌==◌, Bool, true, ◌&&◌, nat_lt, List, [], ◌∷◌, length, map, Some, All, count_by, sum_by, slice_get}
use Rattle.std.specs.List.{list_all, flat_map, range_with_len}
use Rattle.cam_types.specs.Lists.{prefixed}
use Rattle.cam_types.specs.Topology.{Topology}
use Rattle.event_rules.specs.declared.event.Event.{Event}
use Rattle.xpt_state.specs.Replies.{reply_of}
use Rattle.xpt_lock.specs.Seats.{Held}
pub use Rattle.xpt_lock.specs.declared.receipt.Receipt.{Receipt}

-- what one thread would get that made all the calls: each place with its event, and the transport's reply to it there
abbrev pub receipts_of : Topology → List Event → List Receipt
receipts_of c events = map (λ m. record { at = length m.0; event = m.1; reply = reply_of c m.0 m.1 }) (prefixed events)

-- the receipts of the seats, seat by seat
abbrev pub all_receipts : List Held → List Receipt
all_receipts seats = flat_map (λ (h : Held). h.receipts) seats

-- how many of the receipts name the place
abbrev pub naming : ℕ → List Receipt → ℕ
naming place rs = count_by (λ (r : Receipt). r.at == place) rs

-- each receipt names a place before those of the receipts after it
abbrev pub is_rising : List Receipt → Bool
is_rising [] = true
is_rising (r ∷ rs) = list_all (λ (later : Receipt). nat_lt r.at later.at) rs && is_rising rs

-- Each receipt of the seats stands in the list at the place that it names, the places of each seat rise, and none is
-- named twice.
pub record AreConsistent (due : List Receipt) (seats : List Held) : Type 0 where
  pub stand : All (λ (r : Receipt). slice_get due r.at ≡ Some r) (all_receipts seats)
  pub rise : All (λ (h : Held). is_rising h.receipts ≡ true) seats
  pub once : (place : ℕ) → naming place (all_receipts seats) ≤ 1

-- The seats' receipts are those of the list, each once and each seat's in its order.
pub record AreInterleaved (due : List Receipt) (seats : List Held) : Type 0 where
  pub consistent : AreConsistent due seats
  pub all_named : (place : ℕ) → place < length due → naming place (all_receipts seats) ≡ 1
  pub counted : length due ≡ sum_by (λ (h : Held). length h.receipts) seats

-- for each of the first n places, whether a receipt names it
abbrev pub marks : ℕ → List Receipt → List Bool
marks n rs = map (λ k. nat_lt 0 (naming k rs)) (range_with_len 0 n)
