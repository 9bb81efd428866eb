pub mod FaultLemmas
pub mod HandLemmas
pub mod LawLemmas
mod MakingLemmas
pub mod PortLemmas
pub mod CountLemmas
pub mod RecordingLemmas
pub mod SenseLemmas
pub mod Bodies
pub mod RawBoxes
