-- The definitions, and the laws' statements.
pub mod Parts
pub mod Sequence
pub mod Lemmas
pub mod Tails
pub mod Laws
pub mod Layouts
