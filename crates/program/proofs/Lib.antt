pub mod Lines
pub mod Standing
pub mod Fitting
pub mod Few
pub mod Outputs
pub mod Answers
pub mod Inputs
pub mod Serving
