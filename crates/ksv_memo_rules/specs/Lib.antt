pub mod Meaning
pub mod Evaluation
pub mod Entry
pub mod Right
pub mod Touched
pub mod Slots
pub mod Folds
pub mod Unfolded
