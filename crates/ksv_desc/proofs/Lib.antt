-- The lemmas of this crate.
pub mod Readers
pub mod Views
pub mod Dots
pub mod Table
pub mod Tabled
pub mod Firsts
pub mod Numbered
