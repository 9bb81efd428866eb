pub mod DualityLemmas
pub mod FaultLemmas
pub mod LeastLemmas
pub mod RestLemmas
pub mod TallyLemmas
pub mod UsedLemmas
