-- The definitions of paths, values and the context of an expression.
pub mod Trail
pub mod Exact
pub mod Numbers
pub mod Places
pub mod Optional
pub mod Bits
pub mod Range
pub mod Faults
pub mod Bytes
pub mod Encodings
pub mod Setting
pub mod Elements
pub mod Kept
