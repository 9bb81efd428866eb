pub mod Adapter
pub mod Turns
