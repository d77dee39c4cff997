-- The laws of the log reader.
pub mod FileLaws
