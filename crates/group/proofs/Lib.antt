-- Laws of a group.
pub mod Loops
pub mod Idle
