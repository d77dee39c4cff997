-- Laws of a message's row and entry, and of an actor's state.
pub mod Onto
pub mod Back
pub mod Parts
