-- The definitions of the log's text.
pub mod Format
pub mod Line
pub mod Bytes
pub mod Answers
pub mod Lines
