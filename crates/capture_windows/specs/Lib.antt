pub mod Attempts
pub mod Devices
pub mod Counted
pub mod Windows
pub mod Laws
pub mod Progress
