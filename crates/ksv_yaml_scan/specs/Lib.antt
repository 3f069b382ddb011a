-- The definitions that this crate's contracts use.
pub mod Got
pub mod Lines
pub mod Text
pub mod Plain
pub mod Quoted
pub mod Starts
pub mod Blocks
pub mod Rows
pub mod Tokens
pub mod Views
