-- Definitions and statements.
pub mod State
pub mod Words
pub mod Go
pub mod Retry
pub mod Weight
pub mod Step
pub mod Advance
pub mod Asks
pub mod Resume
pub mod Rail
