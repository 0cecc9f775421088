pub mod Adding
pub mod Answers
pub mod Fields
pub mod Rows
pub mod Views
