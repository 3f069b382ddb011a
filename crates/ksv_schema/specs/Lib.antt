-- The keys of a description, and what the values at them mean.
-- What is read at a key of a description's tree: its faults, or what it states.
-- What is read of a description's tree: its faults, or what it states.
-- What the loader makes of a tree.
pub mod Keys
pub mod Expressions
pub mod KeyTexts
pub mod KeyCode
pub mod Faults
pub mod Reading
pub mod Rules
pub mod Values
pub mod Valid
pub mod Code
pub mod Members
pub mod Description
pub mod Plain
pub mod Outcome
