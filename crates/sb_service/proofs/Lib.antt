pub mod Said
pub mod Views
