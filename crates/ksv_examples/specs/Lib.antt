-- Examples, computed from the definitions of each layer.
pub mod Trees
pub mod Expressions
pub mod Descriptions
pub mod Depth
pub mod Dialogues
pub mod Walks
pub mod Stats
