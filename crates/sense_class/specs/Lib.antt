pub mod Sense
pub mod Classes
