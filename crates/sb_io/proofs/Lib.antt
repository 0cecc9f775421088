pub mod Times
pub mod Files
