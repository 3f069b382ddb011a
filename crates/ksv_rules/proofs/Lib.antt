-- The lemmas of this crate.
-- The lemmas of this crate.
pub mod Meeting
pub mod Parameters
pub mod Naming
pub mod Peeked
pub mod Arguments
pub mod Conditions
