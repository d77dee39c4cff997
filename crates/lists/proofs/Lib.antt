-- Laws of the table of links, in the order in which they build on each other.
pub mod Counts
pub mod Cells
pub mod Chains
pub mod Family
pub mod Moves
pub mod AtStart
pub mod Tables
pub mod Rows
pub mod Queues
pub mod Slabs
