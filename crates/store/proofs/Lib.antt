pub mod AnswerLemmas
pub mod LawfulMemory
pub mod RowViews
