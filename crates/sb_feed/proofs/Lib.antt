pub mod KeyTies
pub mod PartSums
pub mod Examples
pub mod LogValues
pub mod Searched
pub mod Meant
pub mod Indexed
