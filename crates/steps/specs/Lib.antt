-- Definitions and statements.
pub mod Words
pub mod Steps
pub mod StepFixed
pub mod StepEval
pub mod RowEnds
