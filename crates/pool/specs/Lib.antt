-- Definitions and statements.
pub mod Open
pub mod Admit
pub mod Loaded
pub mod Run
pub mod Stored
pub mod Calls
