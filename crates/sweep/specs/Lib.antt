pub mod Settings
pub mod Changes
pub mod Choices
pub mod Plans
pub mod Runs
pub mod Rows
