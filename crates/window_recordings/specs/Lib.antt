pub mod Recordings
pub mod Laws
pub mod Windows
