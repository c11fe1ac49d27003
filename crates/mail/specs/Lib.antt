pub mod Mail
pub mod Writing
