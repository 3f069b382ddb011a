-- The lemmas of this crate.
pub mod Characters
pub mod Cases
pub mod Numerals
