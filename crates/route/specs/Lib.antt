-- Definitions and statements.
pub mod Seed
pub mod Intake
pub mod Batch
