pub mod Carry
pub mod Submits
pub mod Laws
