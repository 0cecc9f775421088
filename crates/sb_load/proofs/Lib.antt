pub mod Advancing
pub mod BatchSteps
pub mod Causes
pub mod Loading
pub mod Others
pub mod Placed
