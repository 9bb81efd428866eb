pub mod RowLemmas
pub mod BelowLemmas
pub mod CapLemmas
pub mod WideLemmas
pub mod TryLemmas
