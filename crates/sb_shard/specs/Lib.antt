pub mod Shards
pub mod Events
pub mod Asks
