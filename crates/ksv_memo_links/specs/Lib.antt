pub mod Touching
pub mod Shelved
pub mod Placed
pub mod Linked
pub mod Chained
pub mod Marking
pub mod Links
pub mod Forgetting
