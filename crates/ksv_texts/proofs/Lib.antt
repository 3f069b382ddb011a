pub mod TextLemmas
pub mod Json
pub mod Among
pub mod Digits
pub mod Powers
