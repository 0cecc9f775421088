pub mod Limits
pub mod Keys
pub mod Cuts
pub mod Places
pub mod Jobs
pub mod Feeds
pub mod Index
pub mod Stands
