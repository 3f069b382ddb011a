pub mod Rows
pub mod Chain
pub mod Tower
pub mod Leaves
pub mod Sums
