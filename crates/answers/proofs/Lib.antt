-- Laws of answers and refusals.
pub mod AnswerLaws
pub mod RefusalLaws
