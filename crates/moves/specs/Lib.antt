-- The definitions of moves inside a lent slice.
pub mod Moves
