-- The definitions of sessions.
pub mod Replies
pub mod Session
pub mod Explored
pub mod Kept
pub mod Tallies
pub mod Runs
pub mod Seen
pub mod Code
