pub mod Flow
pub mod Grammar
pub mod Reading
pub mod Text
pub mod Faults
pub mod Code
pub mod Keys
