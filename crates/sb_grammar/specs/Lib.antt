pub mod Grammar
pub mod Printed
pub mod Program
pub mod Text
