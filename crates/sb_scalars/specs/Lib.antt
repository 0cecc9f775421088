pub mod Wrapping
pub mod MinMax
