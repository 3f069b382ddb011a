-- Lemmas.
-- Lemmas by subject.
pub mod Common
pub mod Weight
pub mod Placed
pub mod Lookup
pub mod Made
pub mod Noted
pub mod Forms
pub mod Numbers
pub mod Found
pub mod Resolving
