-- The definitions of the log reader.
pub mod Reopened
