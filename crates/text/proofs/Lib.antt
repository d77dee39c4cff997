-- The laws of the log's text.
pub mod FormatLaws
pub mod Bridge
pub mod WriteLaws
pub mod IdLaws
pub mod Spelling
pub mod EscapeLaws
pub mod RecordLaws
pub mod LineLaws
pub mod AnswerLaws
pub mod NextLaws
