pub mod Tree
pub mod View
pub mod Keys
pub mod Numerals
