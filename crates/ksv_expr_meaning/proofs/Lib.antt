-- The lemmas of this crate.
pub mod Bits
pub mod Division
pub mod Wants
pub mod Truths
