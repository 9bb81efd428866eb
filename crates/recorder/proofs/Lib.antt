mod MakingLemmas
pub mod IndexLemmas
pub mod KeepLemmas
pub mod NoteLemmas
pub mod WindowLemmas
