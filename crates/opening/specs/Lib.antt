pub mod Opening
pub mod Refusals
