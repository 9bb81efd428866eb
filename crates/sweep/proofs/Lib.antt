pub mod SettingLemmas
pub mod ChangeLemmas
pub mod FaultLemmas
pub mod ScriptLemmas
pub mod ChoiceLemmas
pub mod RunLemmas
pub mod LeftLemmas
