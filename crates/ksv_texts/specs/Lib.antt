-- The definitions of texts, of parts of a dump that ask nothing, and of the integers that a file holds.
pub mod Texts
pub mod Parts
pub mod Integers
pub mod Bits
pub mod Seen
