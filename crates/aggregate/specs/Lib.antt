pub mod Ways
pub mod Aggregate
pub mod Reported
pub mod Internal
