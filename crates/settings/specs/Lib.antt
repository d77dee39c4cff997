-- Definitions and statements.
pub mod Ranges
pub mod Tables
