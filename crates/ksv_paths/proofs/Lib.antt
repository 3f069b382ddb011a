-- The lemmas of this crate.
pub mod Cuts
pub mod Digits
pub mod PathTexts
pub mod PathSpelling
pub mod PathReading
