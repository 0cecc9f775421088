pub mod Counting
pub mod Joining
pub mod Raising
pub mod Rows
