pub mod CapLemmas
pub mod CarriedLemmas
pub mod LawLemmas
pub mod PartLemmas
pub mod RequestLemmas
pub mod WindowLemmas
