pub mod Onlines
