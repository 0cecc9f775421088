pub mod Answers
pub mod Command
pub mod Forms
pub mod Found
pub mod Limits
pub mod Numbers
pub mod Services
pub mod Settings
