pub mod Answer
pub mod Cursor
pub mod Expressions
pub mod Types
pub mod Nests
pub mod Programs
pub mod Reading
pub mod Statements
