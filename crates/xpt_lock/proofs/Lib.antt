pub mod SeatLemmas
pub mod ReplayLemmas
pub mod SameLemmas
pub mod ConsistentLemmas
