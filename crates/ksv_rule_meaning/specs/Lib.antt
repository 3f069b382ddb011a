-- The definitions of node rules, and of what is kept.
pub mod Fields
pub mod Members
pub mod Wanted
pub mod Choosing
pub mod Heads
pub mod Integers
pub mod Checks
pub mod Values
pub mod Ends
pub mod Meaning
pub mod FromNothing
pub mod Described
pub mod Lemmas
pub mod Direct
pub mod Completed
pub mod Kept
pub mod Laws
