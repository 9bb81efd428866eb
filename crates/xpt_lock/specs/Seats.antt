-- what contracts see of a seat
use Rattle.std.specs.Prelude.{List}
use Rattle.xpt_lock.specs.declared.receipt.Receipt.{Receipt}
pub use Rattle.xpt_lock.specs.declared.seat.SeatName.{SeatName}

-- a name, and a receipt for each call that made an event
pub record Held : Type 0 where
  pub name : SeatName
  pub receipts : List Receipt
