-- Laws of the pool's calls.
pub mod AdmitLaws
pub mod Names
pub mod OpenLaws
pub mod Loops
pub mod SyncLaws
pub mod ReplyLaws
