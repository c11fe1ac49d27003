pub mod Digits
pub mod Lines
pub mod Columns
pub mod Writing
