-- Lemmas that a type of the code cites; a reader may skip them.
pub mod Bounds
pub mod Lawful
