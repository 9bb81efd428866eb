pub mod Spans
pub mod Flights
pub mod Gaps
pub mod Bounds
pub mod Changes
pub mod Tallies
pub mod Windowed
