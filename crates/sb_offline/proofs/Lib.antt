pub mod Moving
pub mod Settled
pub mod HeldKeys
