pub mod Order
pub mod Heap
pub mod Queue
