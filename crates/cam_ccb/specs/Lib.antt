pub mod Table
pub mod Lends
