-- Laws of the settings and the tables.
pub mod Loops
