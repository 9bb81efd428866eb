pub mod Recorder
pub mod Windows
pub mod Notes
pub mod Faults
pub mod Ids
pub mod Places
pub mod NoteWindows
