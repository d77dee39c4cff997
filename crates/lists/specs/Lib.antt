-- Definitions and statements.
pub mod Links
pub mod Family
pub mod KeyLists
pub mod Slabs
