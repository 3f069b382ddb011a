-- Lemmas that a type of the code cites; a reader may skip them.
pub mod Parts
pub mod Starts
pub mod Spots
pub mod Values
pub mod Missing
pub mod Numbers
pub mod Found
pub mod Once
