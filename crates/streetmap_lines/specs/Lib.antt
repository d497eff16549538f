pub mod BatchAnswers
pub mod AnswerView
pub mod Answers
pub mod Lines
pub mod Request
pub mod RequestView
pub mod Faults
