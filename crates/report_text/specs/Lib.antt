pub mod Words
pub mod Claims
pub mod Limits
pub mod Lines
pub mod Reading
pub mod Report
pub mod TextLines
