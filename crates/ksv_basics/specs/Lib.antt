-- The definitions of plans.
pub mod Plan
pub mod Asking
pub mod Numerals
