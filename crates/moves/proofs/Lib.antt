-- The laws of moves inside a lent slice.
pub mod MoveLaws
