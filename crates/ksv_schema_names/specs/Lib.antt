-- The types, members and enums of a tree, and the lookup of names from a type outwards.
-- What expressions name.
pub mod Rows
pub mod Types
pub mod Members
pub mod Enums
pub mod Table
pub mod View
pub mod Placed
pub mod BuiltIn
pub mod Names
pub mod Code
pub mod Numbered
pub mod Resolved
