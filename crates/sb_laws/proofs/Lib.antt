pub mod Sums
pub mod Halves
pub mod Permuted
pub mod Positions
pub mod Sets
pub mod Tables
pub mod InPlace
