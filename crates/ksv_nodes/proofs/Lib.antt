-- The lemmas on readings, rules and turns.
pub mod Common
pub mod First
pub mod Turns
pub mod Truth
pub mod Looks
pub mod Ranges
pub mod Local
pub mod Bounds
pub mod Resuming
pub mod Replied
pub mod Parts
