-- Definitions and statements.
pub mod Answers
pub mod Refusals
pub mod Numbers
