pub mod ConfigLemmas
pub mod LaneLemmas
pub mod LeastLemmas
pub mod ListLemmas
pub mod TopologyLemmas
pub mod WeightLemmas
pub mod NumberLemmas
pub mod WholeLemmas
