-- What a description is, and what is asked of one.
pub mod Description
pub mod Pieces
pub mod Whole
pub mod Sequence
pub mod Names
pub mod Resolved
pub mod Code
