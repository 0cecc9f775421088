pub mod Columns
pub mod Decimal
pub mod Escape
pub mod Field
pub mod Lines
pub mod MaximalRanges
pub mod Ranges
pub mod RangesRead
