pub mod Orders
pub mod Keys
pub mod Room
pub mod ClosedPrices
pub mod FirstWaiting
pub mod OwnOrders
pub mod Worth
