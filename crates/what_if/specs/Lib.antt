pub mod Costs
pub mod Changes
pub mod Below
pub mod Caps
pub mod Tries
