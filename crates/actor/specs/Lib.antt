-- Definitions and statements.
pub mod Messages
pub mod Questions
pub mod Actors
pub mod Entry
pub mod Part
