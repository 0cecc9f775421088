pub mod Cut
pub mod Found
pub mod Members
pub mod Rankings
pub mod Ranks
pub mod Rings
pub mod Search
pub mod Undoing
