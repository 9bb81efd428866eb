pub mod AuditLemmas
pub mod CheckLemmas
pub mod CostLemmas
pub mod InputLemmas
pub mod ProveLemmas
