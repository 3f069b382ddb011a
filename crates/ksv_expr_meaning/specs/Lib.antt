-- The meaning of expressions: what they ask, and their values over any answers.
pub mod Integers
pub mod Texts
pub mod Methods
pub mod Operators
pub mod Heard
pub mod Asked
pub mod Replying
pub mod Meaning
pub mod Evaluation
