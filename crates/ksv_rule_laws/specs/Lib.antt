-- The laws' statements.
pub mod Expressions
pub mod Laws
