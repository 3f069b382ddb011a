pub mod Lists
pub mod Replying
pub mod Evals
pub mod Keeping
pub mod Standins
pub mod Standing
