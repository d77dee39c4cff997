-- Definitions and statements.
pub mod Waking
pub mod Ready
pub mod Settle
pub mod Crash
