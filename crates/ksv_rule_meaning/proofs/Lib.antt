-- The lemmas of this crate.
-- The lemmas of this crate.
pub mod Direct
pub mod Integers
pub mod Completing
