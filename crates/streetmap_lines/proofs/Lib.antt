pub mod AnswerLemmas
pub mod Requests
