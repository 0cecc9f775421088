pub mod Events
pub mod HeldKeys
pub mod Merged
pub mod Expired
pub mod Drained
pub mod Kept
pub mod Outcomes
