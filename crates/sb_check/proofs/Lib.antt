pub mod Batches
pub mod Ordered
pub mod Rows
pub mod StoresAt
pub mod Widths
