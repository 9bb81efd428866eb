pub mod HeapLemmas
pub mod SiftLemmas
pub mod OrderLemmas
pub mod RankLemmas
pub mod ListChangeLemmas
pub mod QueueLemmas
