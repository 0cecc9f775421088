pub mod Caps
pub mod Fields
pub mod Listed
