-- The lemmas of this crate.
pub mod Paths
pub mod Halves
pub mod Encodings
pub mod Room
pub mod Places
pub mod Binary
