pub mod Agreement
pub mod Expressions
pub mod Nodes
pub mod Outcome
pub mod Sizes
pub mod Tables
pub mod Written
