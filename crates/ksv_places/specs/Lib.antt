pub mod Nodes
pub mod Spots
pub mod Table
pub mod Tree
