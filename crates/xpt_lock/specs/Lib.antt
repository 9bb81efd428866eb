pub mod Seats
pub mod WaitEvents
pub mod Notifications
pub mod Calls
pub mod Receipts
pub mod Gathers
pub mod Examples
