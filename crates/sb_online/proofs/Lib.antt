pub mod Tabled
pub mod Looked
pub mod Changed
