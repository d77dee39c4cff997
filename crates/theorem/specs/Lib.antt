-- Definitions and statements, from the places of a message up to the whole rail.
pub mod Places
pub mod Handing
pub mod HandedShown
pub mod Mailboxes
pub mod Operations
pub mod Examples
pub mod Keeping
pub mod Living
pub mod MailSteps
pub mod Rail
pub mod Retries
pub mod Refusals
pub mod Stopping
