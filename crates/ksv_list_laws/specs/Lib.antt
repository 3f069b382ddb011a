-- The definitions, and the laws' statements.
pub mod Lists
pub mod Nodes
pub mod Laws
pub mod Examples
