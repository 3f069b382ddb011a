pub mod TallyLemmas
pub mod RunLemmas
pub mod AnswerLemmas
pub mod QuestionLemmas
pub mod KeptLemmas
pub mod EditLemmas
