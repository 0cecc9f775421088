pub mod Offlines
pub mod Expiries
