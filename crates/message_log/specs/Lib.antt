-- The definitions of the log.
pub mod Opening
pub mod Skipped
pub mod Log
pub mod Rewrite
pub mod Opened
pub mod Scan
pub mod Recovery
pub mod Stands
pub mod RowEnds
pub mod Retries
