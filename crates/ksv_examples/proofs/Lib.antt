-- What is computed to a depth is what evaluation from nothing answers, and the examples that rest on it.
pub mod Depth
pub mod Sessions
pub mod Stating
pub mod Dialogues
pub mod Walks
pub mod Stats
