pub mod WalkLemmas
pub mod ForestLemmas
pub mod CycleLemmas
