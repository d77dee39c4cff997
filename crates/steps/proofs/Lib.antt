-- Laws of an actor's steps.
pub mod Times
pub mod Kept
