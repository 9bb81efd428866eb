pub mod FirstLemmas
pub mod KeyLemmas
pub mod KnownLemmas
pub mod LastLemmas
pub mod LawLemmas
pub mod OrderLemmas
pub mod PlaceLemmas
pub mod TableLemmas
