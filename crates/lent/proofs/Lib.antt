pub mod Data
pub mod Arguments
pub mod Contract
pub mod Law
pub mod Passing
