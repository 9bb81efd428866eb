pub mod EntryLemmas
pub mod TurnLemmas
pub mod HeadLemmas
pub mod RowLemmas
