pub mod CommandLineLemmas
pub mod WordLemmas
pub mod CutLemmas
pub mod Written
pub mod DigitLemmas
