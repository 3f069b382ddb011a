pub mod Hashing
pub mod Reading
pub mod Summing
pub mod Telling
pub mod Totals
