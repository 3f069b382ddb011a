-- Paths as texts.
pub mod PathTexts
pub mod Laws
