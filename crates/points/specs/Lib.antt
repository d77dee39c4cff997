-- Definitions and statements.
pub mod At
pub mod Words
