pub mod Words
pub mod Faults
pub mod Least
pub mod Rests
pub mod Tally
pub mod Verdicts
