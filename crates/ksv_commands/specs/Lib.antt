-- The definitions of command lines.
pub mod Numbers
pub mod Commands
