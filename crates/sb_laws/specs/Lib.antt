pub mod Sums
pub mod Folds
pub mod Tables
