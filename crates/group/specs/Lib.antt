-- Definitions and statements.
pub mod Settings
pub mod Roster
