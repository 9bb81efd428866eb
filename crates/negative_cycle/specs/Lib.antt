pub mod Walks
pub mod PotentialTable
