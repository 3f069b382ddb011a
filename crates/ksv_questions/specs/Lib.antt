-- The definitions of questions.
pub mod Asking
pub mod Questions
pub mod Dumps
pub mod Writing
pub mod Engines
pub mod Answers
pub mod Seen
pub mod Code
