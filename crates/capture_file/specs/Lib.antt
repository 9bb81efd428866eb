pub mod Attempts
pub mod Events
pub mod Keys
pub mod Laws
pub mod Spots
pub mod States
pub mod Tables
