-- what stands in the row of a stay
use Rattle.std.proofs.Common.{◌≡◌, ℕ, ap, Some, slice_get}
use Rattle.std.specs.Option.{option_map_or}
use Rattle.round_net.specs.Rows.{NetRows, instance_of_rows, live_of_rows, StayRow}

pub device-row : (n : NetRows) (s : ℕ) (row : StayRow) → slice_get n.stays s ≡ Some row → (instance_of_rows n).device s ≡ row.device
unfolding instance_of_rows
device-row n s row e = ap (λ o. option_map_or (λ (row : StayRow). row.device) o 0) e

pub arrival-row : (n : NetRows) (s : ℕ) (row : StayRow) → slice_get n.stays s ≡ Some row → (instance_of_rows n).arrival s ≡ row.arrival
unfolding instance_of_rows
arrival-row n s row e = ap (λ o. option_map_or (λ (row : StayRow). row.arrival) o 0) e

pub last-row : (n : NetRows) (s : ℕ) (row : StayRow) → slice_get n.stays s ≡ Some row → (instance_of_rows n).last s ≡ row.last
unfolding instance_of_rows
last-row n s row e = ap (λ o. option_map_or (λ (row : StayRow). row.last) o 0) e

pub weight-row : (n : NetRows) (s : ℕ) (row : StayRow) → slice_get n.stays s ≡ Some row → (instance_of_rows n).weight s ≡ row.weight
unfolding instance_of_rows
weight-row n s row e = ap (λ o. option_map_or (λ (row : StayRow). row.weight) o 0) e

pub live-row : (n : NetRows) (s : ℕ) (row : StayRow) → slice_get n.stays s ≡ Some row → live_of_rows n s ≡ row.live
unfolding live_of_rows
live-row n s row e = ap (λ o. option_map_or (λ (row : StayRow). row.live) o 0) e
