-- what the waiting costs by each order, as it was and with more openings
use Rattle.std.specs.Prelude.{◌≡◌, ℕ, ◌+◌, ◌<◌, All, List, [], ◌∷◌, length, slice_index_or, map, Option, Some, None, Vec}
use Rattle.std.specs.Global.{Global}
use Rattle.what_if.specs.Caps.{changed_net}
use Rattle.what_if.specs.Changes.{IsChangeOf, changes_in}
use Rattle.what_if.specs.declared.change.Change.{Change}
use Rattle.orders.specs.Orders.{IsOrdered, unsent, late}
use Rattle.orders.specs.declared.order.Order.{Order}
use Rattle.orders.specs.declared.order.Order.TheVariants.{FirstCome, ByWeight}
use Rattle.round_net.specs.Instance.{Instance}
use Rattle.round_net.specs.Rows.{NetRows, instance_of_rows}
use Rattle.round_net.specs.Schedules.{cost}
use Rattle.round_net.specs.Value.{Pricing, ProvesBest}
pub use Rattle.what_if.specs.declared.costs.Costs.{Costs}

-- some schedule is that of the order, and all are sent in time by it, at this cost; without a cost not all are
pub record IsInTime (order : Order) (net : Instance) (spent : ℕ) : Type 0 where
  pub f : ℕ → ℕ
  pub ordered : IsOrdered order net f
  pub in_time : unsent net f + late net f ≡ 0
  pub spends : spent ≡ cost net f

pub record IsNotInTime (order : Order) (net : Instance) : Type 0 where
  pub f : ℕ → ℕ
  pub ordered : IsOrdered order net f
  pub some : 0 < unsent net f + late net f

abbrev pub IsOrderCost : Order → Instance → Option ℕ → Type 0
IsOrderCost order net None = IsNotInTime order net
IsOrderCost order net (Some spent) = IsInTime order net spent

-- it is what a schedule costs that prices prove to be a best one
pub record IsLeast (net : Instance) (least : ℕ) : Type 0 where
  pub f : ℕ → ℕ
  pub prices : Pricing
  pub proved : ProvesBest net f prices
  pub spends : least ≡ cost net f

pub record AreCosts (net : Instance) (c : Costs) : Type 0 where
  pub first_come : IsOrderCost FirstCome net c.first_come
  pub by_weight : IsOrderCost ByWeight net c.by_weight
  pub best : IsLeast net c.best

-- each list has changes of the net
abbrev pub AreChanges : Instance → List (Vec Change Global) → Type 0
AreChanges net lists = All (λ (list : Vec Change Global). All (IsChangeOf net) list.items) lists

-- the changes of each list
abbrev pub changes_of_each : List (Vec Change Global) → List (List Change)
changes_of_each lists = map (λ (list : Vec Change Global). list.items) lists

-- no change at first, and then of each list those that are changes of the net, in order
abbrev pub lists_in : Instance → List (Vec Change Global) → List (List Change)
lists_in net wanted = [] ∷ map (λ (list : Vec Change Global). changes_in net list.items) wanted

-- the costs in the net with the changes of the list of a number
abbrev pub IsRowAt : NetRows → List (Vec Change Global) → ℕ → Costs → Type 0
IsRowAt n lists at c = (list : Vec Change Global) → AreCosts (instance_of_rows (changed_net n (slice_index_or lists at list).items)) c

-- a row for each list, in order
pub record AreRowsOf (n : NetRows) (lists : List (Vec Change Global)) (rows : List Costs) : Type 0 where
  pub long : length rows ≡ length lists
  pub each : (at : ℕ) (c : Costs) → at < length lists → IsRowAt n lists at (slice_index_or rows at c)
