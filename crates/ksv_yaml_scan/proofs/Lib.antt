-- Lemmas, those of use to crates above among them.
pub mod Common
pub mod Choices
pub mod Spaces
pub mod Starts
pub mod Parts
pub mod Numbers
pub mod Cutting
pub mod Runs
pub mod Continuing
pub mod Folding
