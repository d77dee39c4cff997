-- Laws of a turn.
pub mod Advance
pub mod StepLaws
pub mod CellLaws
