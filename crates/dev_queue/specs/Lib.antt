pub mod Device
pub mod Order
pub mod Sound
