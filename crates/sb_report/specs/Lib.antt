pub mod Limits
pub mod Report
pub mod Script
pub mod Transcript
