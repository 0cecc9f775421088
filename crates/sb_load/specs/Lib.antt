pub mod Batches
pub mod Causes
pub mod Commands
pub mod Inputs
pub mod Limits
pub mod Refusals
pub mod Steps
