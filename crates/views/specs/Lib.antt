pub mod Beginnings
pub mod Numbered
pub mod Turn
