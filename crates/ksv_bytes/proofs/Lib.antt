pub mod Around
pub mod Untouched
pub mod Made
