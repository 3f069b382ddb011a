-- The lemmas on plans.
pub mod Running
pub mod Bounds
pub mod Truth
pub mod Worth
